-- what became of a text that was to be written
use Rattle.std.specs.Prelude.{◌≡◌, ℕ, List, Result, Ok, Err}
use Rattle.std.specs.Io.KnownBytes.{Appends}
use Rattle.dcp_io.specs.Counts.{Rose}
use Rattle.dcp_io.specs.Moves.{Outlet, WrotePart}
use Rattle.dcp_io.specs.declared.status.Status.{Status}
use Rattle.dcp_io.specs.declared.status.Status.TheVariants as status

-- all of it was appended
abbrev pub WroteAll : Outlet → Outlet → List ℕ → Type 0
WroteAll old new text = Appends old.held new.held text × (new.faults ≡ old.faults)

-- a front part of it was appended: a put failed, or memory was short
abbrev pub Stopped : Outlet → Outlet → List ℕ → Status → Type 0
Stopped old new text status.WriteFault = WrotePart old.held new.held text × Rose old.faults new.faults
Stopped old new text status.NoMemory = WrotePart old.held new.held text × (new.faults ≡ old.faults)
Stopped old new text other = ⊥

-- what was written of a text: all, or a front part and why no more
abbrev pub Wrote : Outlet → Outlet → List ℕ → Result (Unit {0}) Status → Type 0
Wrote old new text (Ok u) = WroteAll old new text
Wrote old new text (Err stop) = Stopped old new text stop
