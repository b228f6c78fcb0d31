-- counts of failures
use Rattle.std.specs.Prelude.{ℕ, ◌+◌, ◌-◌, ◌^◌, ◌≤◌, min}
use Rattle.vb_disk.specs.declared.Put.{Put}
use Rattle.vb_disk.specs.declared.Put.TheVariants as put

-- A count rose: it is above what it was, or stands at its end.
abbrev pub Rose : ℕ → ℕ → Type 0
Rose before now = min (before + 1) (2 ^ 64 - 1) ≤ now

-- A count never falls, and a call fails only where it rose.
abbrev pub Counted : ℕ → ℕ → Put → Type 0
Counted before now put.Done = before ≤ now
Counted before now put.Failed = (before ≤ now) × Rose before now
