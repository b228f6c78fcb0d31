-- counts that stand still at their end
use Rattle.std.specs.Prelude.{ℕ, ◌+◌, ◌-◌, ◌^◌, ◌≤◌, min, max}

-- A count after n more: it stands still at 2^64 - 1, and it never falls.
unfoldable pub raised : ℕ → ℕ → ℕ
raised count n = max count (min (count + n) (2 ^ 64 - 1))

-- A count rose: it is above what it was, or stands at its end.
abbrev pub Rose : ℕ → ℕ → Type 0
Rose before now = raised before 1 ≤ now
