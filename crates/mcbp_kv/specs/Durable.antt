-- what a durable write requires, by the level and the timeout that its frame names
use Rattle.std.specs.Prelude.{ℕ, ◌==◌, if◌then◌else◌, Option, Some, None, option_map}
use Rattle.vb_types.specs.declared.change.Level.{Level}
use Rattle.vb_types.specs.Levels.{level_of}
use Rattle.mcbp_kv.specs.declared.durable.Durability.{Durability}
use Rattle.mcbp_kv.specs.declared.durable.TheConstants.{DEFAULT_TIMEOUT}
use Rattle.mcbp_kv.specs.declared.framing.Requirement.{Requirement}

-- a timeout in milliseconds; one of 0 is that of a frame that names none
abbrev pub timeout_named : ℕ → ℕ
timeout_named named = if named == 0 then DEFAULT_TIMEOUT else named

-- this level, within so many milliseconds
abbrev pub within : Level → ℕ → Durability
within level timeout = record { level = level; timeout = timeout }

-- what is required, if there is such a level
abbrev pub durability_named : Requirement → Option Durability
durability_named r = option_map (λ level. within level (timeout_named r.timeout)) (level_of r.level)
