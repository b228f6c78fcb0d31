-- what the calls of a link leave of its source
use Rattle.std.specs.Prelude.{◌≡◌}
use Rattle.dcp_io.specs.Counts.{raised}
use Rattle.dcp_io.specs.Memory.{MemIntake, MemOutlet}
use Rattle.dcp_io.specs.Moves.{Intake}
use Rattle.edge_io.specs.declared.Opened.{Opened}
use Rattle.edge_io.specs.declared.Opened.TheVariants as opened

-- A bell of a link was asked for: its source stays as it is, but that a fault is counted where none was given for one.
abbrev pub GivesBell : {B : Type 0} → Intake → Intake → Opened B → Type 0
GivesBell old new (opened.Is bell) = new ≡ old
GivesBell old new opened.NoMemory = new ≡ old
GivesBell old new opened.Failed = new ≡ record old { faults = raised old.faults 1 }

-- A link in memory: a source and a sink.
pub record MemLinkState : Type 0 where
  pub source : MemIntake
  pub sink : MemOutlet
