-- durability levels as numbers
use Rattle.std.specs.Prelude.{ℕ, Bool, true, false, ◌==◌, if◌then◌else◌, Option, Some, None}
use Rattle.vb_types.specs.declared.change.Level.{Level}
use Rattle.vb_types.specs.declared.change.Level.TheVariants as level

-- the number of a level, in a frame and in a journal
abbrev pub level_number : Level → ℕ
level_number level.Majority = 1
level_number level.MajorityPersistActive = 2
level_number level.PersistMajority = 3

-- the level of a number, if it has one
abbrev pub level_of : ℕ → Option Level
level_of n =
    if n == 1 then Some level.Majority
    else if n == 2 then Some level.MajorityPersistActive
    else if n == 3 then Some level.PersistMajority
    else None

-- level 3
abbrev pub is_third : Level → Bool
is_third level.Majority = false
is_third level.MajorityPersistActive = false
is_third level.PersistMajority = true
