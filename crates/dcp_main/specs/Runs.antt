-- what a run read and wrote, by the status that it answers
use Rattle.std.specs.Prelude.{◌≡◌, ℕ, ◌+◌, ◌<◌, ◌⊎◌, List, codes}
use Rattle.std.specs.Io.KnownBytes.{Consumes}
use Rattle.std.specs.List.{All}
use Rattle.dcp_io.specs.Counts.{raised, Rose}
use Rattle.dcp_io.specs.Moves.{Intake, Outlet, WrotePart}
use Rattle.dcp_io.specs.Reads.{ReadAll, ReadFailed, ReadMore, ReadSome}
use Rattle.dcp_io.specs.Statuses.{bad_text}
use Rattle.dcp_io.specs.Writes.{WroteAll, Stopped}
use Rattle.node_world.specs.World.{groups}
use Rattle.script_gen.specs.Scripts.{gen_script}
use Rattle.transcript_law.specs.{Checked.{Checked}, Lawfulness.{Lawful}}
use Rattle.transcript_law.specs.Prefixes.{AreFollowed, known_of, world_of}
use Rattle.script_text.specs.Held.{IsGroupHeld}
use Rattle.script_text.specs.Scripts.{IsScript, FirstBad}
use Rattle.script_text.specs.Transcript.{print_of}
use Rattle.script_text.specs.declared.verb.ScriptLine.{ScriptLine}
use Rattle.dcp_io.specs.declared.input.TheConstants.{MAX_INPUT}
use Rattle.dcp_io.specs.declared.status.Status.{Status}
use Rattle.dcp_io.specs.declared.status.Status.TheVariants as status
use Rattle.dcp_main.specs.Summaries.{summary_text}

-- the whole script was read, each line is in the grammar, and the print of its groups, which are lawful, pass a checker and are held, so that it is read back, was written; what the script leaves is what they tell, and each vBucket follows its branch
pub record Completed (old new : Intake) (before after : Outlet) : Type 0 where
  pub bytes : List ℕ
  pub script : List ScriptLine
  pub read : ReadAll old new bytes
  pub said : IsScript bytes script
  pub lawful : Lawful script (groups script)
  pub checked : Checked script (groups script)
  pub followed : AreFollowed (known_of script) (world_of script)
  pub held : All IsGroupHeld (groups script)
  pub wrote : WroteAll before after (print_of (groups script))

-- the whole script was read, a line is outside the grammar, and the message on the first such line was written
pub record BadLineTold (old new : Intake) (before after : Outlet) : Type 0 where
  pub bytes : List ℕ
  pub line : ℕ
  pub read : ReadAll old new bytes
  pub bad : FirstBad bytes line
  pub wrote : WroteAll before after (bad_text line)

-- what is to be written for a script: the print of its groups, or the message on its first bad line
abbrev pub IsOutput : List ℕ → List ℕ → Type 0
IsOutput bytes text =
    ((script : List ScriptLine) × IsScript bytes script × (text ≡ print_of (groups script)))
    ⊎ ((line : ℕ) × FirstBad bytes line × (text ≡ bad_text line))

-- the whole script was read, and a front part of what is to be written was written
pub record Broken (old new : Intake) (before after : Outlet) : Type 0 where
  pub bytes : List ℕ
  pub text : List ℕ
  pub read : ReadAll old new bytes
  pub output : IsOutput bytes text
  pub part : WrotePart before.held after.held text

-- what a run did, by the status that it answers: what it read of the source, what it wrote to the sink, and which of the two failed
abbrev pub Ran : Intake → Intake → Outlet → Outlet → Status → Type 0
Ran old new before after status.Ok = Completed old new before after
Ran old new before after status.BadLine = BadLineTold old new before after
Ran old new before after status.ReadFault = ReadFailed old new × (after ≡ before)
Ran old new before after status.InputTooLong = ReadMore old new × (after ≡ before)
Ran old new before after status.WriteFault = Broken old new before after × Rose before.faults after.faults
Ran old new before after status.NoMemory = (after.faults ≡ before.faults)
    × ((ReadSome old new × (after ≡ before)) ⊎ Broken old new before after)
Ran old new before after status.Usage = ⊥

-- where no count of faults rose, no more was taken than a script may have, and no line of it is outside the grammar,
-- the script was run, or memory was short
abbrev pub Complete : Intake → Intake → Outlet → Outlet → Status → Type 0
Complete old new before after answer =
    ¬ Rose old.faults new.faults → ¬ Rose before.faults after.faults → new.taken < raised old.taken (MAX_INPUT + 1)
    → ((bytes : List ℕ) (line : ℕ) → Consumes old.left new.left bytes → ¬ FirstBad bytes line)
    → (answer ≡ status.Ok) ⊎ (answer ≡ status.NoMemory)

-- the script of this seed and so many writes was run, and its lines were told: how many it has, how many its transcript has, which is lawful and passes a checker, and how
-- its last two groups show both vBuckets; what the script leaves is what its groups tell, and each vBucket follows its branch
pub record Made (seed count : ℕ) (before after : Outlet) : Type 0 where
  pub lawful : Lawful (gen_script seed count) (groups (gen_script seed count))
  pub checked : Checked (gen_script seed count) (groups (gen_script seed count))
  pub followed : AreFollowed (known_of (gen_script seed count)) (world_of (gen_script seed count))
  pub wrote : WroteAll before after (summary_text (gen_script seed count))

-- what became of the lines on a script that was made, by the status that is answered
abbrev pub GenTold : ℕ → ℕ → Outlet → Outlet → Status → Type 0
GenTold seed count before after status.Ok = Made seed count before after
GenTold seed count before after status.WriteFault = Stopped before after (summary_text (gen_script seed count)) status.WriteFault
GenTold seed count before after status.NoMemory = Stopped before after (summary_text (gen_script seed count)) status.NoMemory
GenTold seed count before after status.Usage = ⊥
GenTold seed count before after status.BadLine = ⊥
GenTold seed count before after status.ReadFault = ⊥
GenTold seed count before after status.InputTooLong = ⊥

-- and nothing was read
abbrev pub GenRan : ℕ → ℕ → Intake → Intake → Outlet → Outlet → Status → Type 0
GenRan seed count old new before after answer = (new ≡ old) × GenTold seed count before after answer

-- the usage line
abbrev pub usage_text : List ℕ
usage_text = codes "usage: dcp_main run | gen SEED COUNT | storm SEED CLIENTS WRITES\n"

-- the words are none that the program has: the usage line was written, or a front part of it
abbrev pub UsageTold : Outlet → Outlet → Status → Type 0
UsageTold before after status.Usage = WroteAll before after usage_text
UsageTold before after status.WriteFault = Stopped before after usage_text status.WriteFault
UsageTold before after status.NoMemory = Stopped before after usage_text status.NoMemory
UsageTold before after status.Ok = ⊥
UsageTold before after status.BadLine = ⊥
UsageTold before after status.ReadFault = ⊥
UsageTold before after status.InputTooLong = ⊥

-- and nothing was read
abbrev pub UsageAlone : Intake → Intake → Outlet → Outlet → Status → Type 0
UsageAlone old new before after answer = (new ≡ old) × UsageTold before after answer
