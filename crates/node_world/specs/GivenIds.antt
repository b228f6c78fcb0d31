-- which ids of branches count as given
use Rattle.std.specs.Prelude.{◌≡◌, ◌↔◌, ◌⊎◌, ℕ, List, [], ◌∷◌}
use Rattle.script_text.specs.declared.verb.ScriptLine.{ScriptLine}
use Rattle.vb_events.specs.declared.event.Event.{Event}
use Rattle.vb_events.specs.declared.event.Event.TheVariants as event
use Rattle.node_world.specs.Causes.{IsGiven}
use Rattle.node_world.specs.World.{world_step}
use Rattle.node_world.specs.Worlds.{PlainWorld, empty_world}

-- one of these lines tells of a branch of this id
abbrev pub TellsBranch : ℕ → List Event → Type 0
TellsBranch uuid [] = ⊥
TellsBranch uuid (event.Branch n v id parent fork high ∷ lines) = (id ≡ uuid) ⊎ TellsBranch uuid lines
TellsBranch uuid (other ∷ lines) = TellsBranch uuid lines

-- behind a line an id was given exactly where it was before, or a line of the group tells of a branch of it
abbrev pub GivesByLines : PlainWorld → ScriptLine → Type 0
GivesByLines w line = (uuid : ℕ) → IsGiven (world_step w line).0 uuid ↔ (IsGiven w uuid ⊎ TellsBranch uuid (world_step w line).1.events)

-- at first none was
abbrev pub GivesNone : Type 0
GivesNone = (uuid : ℕ) → IsGiven empty_world uuid → ⊥
