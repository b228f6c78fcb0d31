-- what starting a job does to a spawner
use Rattle.std.specs.Prelude.{◌≡◌, ℕ, List}
use Rattle.dcp_io.specs.Counts.{raised}
use Rattle.dcp_io.specs.Memory.{FailsNext}
use Rattle.edge_io.specs.declared.Started.{Started}
use Rattle.edge_io.specs.declared.Started.TheVariants as started

-- How many jobs were started, and how many were not.
pub record Tally : Type 0 where
  pub started : ℕ
  pub faults : ℕ

-- One more of either, by the answer.
abbrev pub Starts : Tally → Tally → Started → Type 0
Starts old new started.Yes = new ≡ record old { started = raised old.started 1 }
Starts old new started.No = new ≡ record old { faults = raised old.faults 1 }

-- A spawner in memory: its calls so far, the calls that fail, how many jobs were started, and how many were not.
pub record MemTally : Type 0 where
  pub calls : ℕ
  pub fail : List ℕ
  pub started : ℕ
  pub faults : ℕ

abbrev pub tally_of : MemTally → Tally
tally_of s = record { started = s.started; faults = s.faults }

-- A start in memory fails at exactly the calls that are listed.
abbrev pub MemStarts : MemTally → MemTally → Started → Type 0
MemStarts old new started.Yes = ¬ FailsNext old.fail old.calls × (new ≡ record old { calls = raised old.calls 1; started = raised old.started 1 })
MemStarts old new started.No = FailsNext old.fail old.calls × (new ≡ record old { calls = raised old.calls 1; faults = raised old.faults 1 })
