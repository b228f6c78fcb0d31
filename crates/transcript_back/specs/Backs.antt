-- what was read of a transcript, and written, by the status that is answered
use Rattle.std.specs.Prelude.{◌≡◌, ℕ, ◌+◌, ◌<◌, ◌⊎◌, List}
use Rattle.std.specs.Io.KnownBytes.{Consumes}
use Rattle.dcp_io.specs.Counts.{raised, Rose}
use Rattle.dcp_io.specs.Moves.{Intake, Outlet, WrotePart}
use Rattle.dcp_io.specs.Reads.{ReadAll, ReadFailed, ReadMore, ReadSome}
use Rattle.dcp_io.specs.Statuses.{bad_text}
use Rattle.dcp_io.specs.Writes.{WroteAll}
use Rattle.dcp_io.specs.declared.input.TheConstants.{MAX_INPUT}
use Rattle.dcp_io.specs.declared.status.Status.{Status}
use Rattle.dcp_io.specs.declared.status.Status.TheVariants as status
use Rattle.script_text.specs.ReadBack.{IsTranscript, BreaksAt}
use Rattle.vb_events.specs.declared.event.Group.{Group}

-- all was read, it is the transcript of some groups, and exactly the bytes that were read were written
pub record WrittenAgain (old new : Intake) (before after : Outlet) : Type 0 where
  pub bytes : List ℕ
  pub groups : List Group
  pub read : ReadAll old new bytes
  pub said : IsTranscript bytes groups
  pub wrote : WroteAll before after bytes

-- all was read, it breaks off at a line, and the message on that line was written
pub record BadLineTold (old new : Intake) (before after : Outlet) : Type 0 where
  pub bytes : List ℕ
  pub line : ℕ
  pub read : ReadAll old new bytes
  pub breaks : BreaksAt bytes line
  pub wrote : WroteAll before after (bad_text line)

-- what is to be written for bytes: a transcript itself, or the message on the line where they break off
abbrev pub IsOutput : List ℕ → List ℕ → Type 0
IsOutput bytes text =
    ((groups : List Group) × IsTranscript bytes groups × (text ≡ bytes))
    ⊎ ((line : ℕ) × BreaksAt bytes line × (text ≡ bad_text line))

-- all was read, and a front part of what is to be written was written
pub record Broken (old new : Intake) (before after : Outlet) : Type 0 where
  pub bytes : List ℕ
  pub text : List ℕ
  pub read : ReadAll old new bytes
  pub output : IsOutput bytes text
  pub part : WrotePart before.held after.held text

-- what was read of the source, what was written to the sink, and which of the two failed
abbrev pub Went : Intake → Intake → Outlet → Outlet → Status → Type 0
Went old new before after status.Ok = WrittenAgain old new before after
Went old new before after status.BadLine = BadLineTold old new before after
Went old new before after status.ReadFault = ReadFailed old new × (after ≡ before)
Went old new before after status.InputTooLong = ReadMore old new × (after ≡ before)
Went old new before after status.WriteFault = Broken old new before after × Rose before.faults after.faults
Went old new before after status.NoMemory = (after.faults ≡ before.faults)
    × ((ReadSome old new × (after ≡ before)) ⊎ Broken old new before after)
Went old new before after status.Usage = ⊥

-- where no count of faults rose, no more was taken than an input may have, and the bytes break off nowhere, they were written again,
-- or memory was short
abbrev pub Complete : Intake → Intake → Outlet → Outlet → Status → Type 0
Complete old new before after answer =
    ¬ Rose old.faults new.faults → ¬ Rose before.faults after.faults → new.taken < raised old.taken (MAX_INPUT + 1)
    → ((bytes : List ℕ) (line : ℕ) → Consumes old.left new.left bytes → ¬ BreaksAt bytes line)
    → (answer ≡ status.Ok) ⊎ (answer ≡ status.NoMemory)
