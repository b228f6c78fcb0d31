-- what became of the input
use Rattle.std.specs.Prelude.{◌≡◌, ℕ, ◌≤◌, ◌<◌, List, length, Result, Ok, Err, Vec}
use Rattle.std.specs.Global.{Global}
use Rattle.std.specs.Io.KnownBytes.{IsAtEnd}
use Rattle.dcp_io.specs.Counts.{Rose}
use Rattle.dcp_io.specs.Moves.{Intake, Drew}
use Rattle.dcp_io.specs.declared.input.TheConstants.{MAX_INPUT}
use Rattle.dcp_io.specs.declared.status.Status.{Status}
use Rattle.dcp_io.specs.declared.status.Status.TheVariants as status

-- these bytes were taken, and then the end was read: they are no more than an input may have
pub record ReadAll (old new : Intake) (bytes : List ℕ) : Type 0 where
  pub turns : ℕ
  pub drew : Drew old new bytes turns
  pub end : IsAtEnd new.left
  pub limit : length bytes ≤ MAX_INPUT
  pub faults : new.faults ≡ old.faults

-- a take failed before more was taken than an input may have
pub record ReadFailed (old new : Intake) : Type 0 where
  pub bytes : List ℕ
  pub turns : ℕ
  pub drew : Drew old new bytes turns
  pub limit : length bytes ≤ MAX_INPUT
  pub rose : Rose old.faults new.faults

-- more was taken than an input may have
pub record ReadMore (old new : Intake) : Type 0 where
  pub bytes : List ℕ
  pub turns : ℕ
  pub drew : Drew old new bytes turns
  pub above : MAX_INPUT < length bytes
  pub faults : new.faults ≡ old.faults

-- some bytes were taken
pub record ReadSome (old new : Intake) : Type 0 where
  pub bytes : List ℕ
  pub turns : ℕ
  pub drew : Drew old new bytes turns
  pub faults : new.faults ≡ old.faults

-- what was read of the source: all, with the end, or what was taken before a fault, too much or want of memory stopped it
abbrev pub Read : Intake → Intake → Result (Vec ℕ Global) Status → Type 0
Read old new (Ok bytes) = ReadAll old new bytes.items
Read old new (Err status.ReadFault) = ReadFailed old new
Read old new (Err status.InputTooLong) = ReadMore old new
Read old new (Err status.NoMemory) = ReadSome old new
Read old new (Err other) = ⊥
