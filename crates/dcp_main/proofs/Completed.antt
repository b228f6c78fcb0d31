-- a run that reads a script and writes its transcript
use Rattle.std.specs.List.{All}
use Rattle.std.specs.Prelude.{ℕ, List}
use Rattle.dcp_io.specs.Moves.{Intake, Outlet}
use Rattle.dcp_io.specs.Reads.{ReadAll}
use Rattle.dcp_io.specs.Writes.{WroteAll}
use Rattle.dcp_main.specs.Runs.{Completed}
use Rattle.node_world.specs.World.{groups}
use Rattle.script_text.specs.Held.{IsGroupHeld}
use Rattle.script_text.specs.Scripts.{IsScript}
use Rattle.script_text.specs.Transcript.{print_of}
use Rattle.script_text.specs.declared.verb.ScriptLine.{ScriptLine}
use Rattle.transcript_law.proofs.Laws.{read_is_lawful, read_is_followed, read_passes}

pub completed : (old new : Intake) (before after : Outlet) (bytes : List ℕ) (script : List ScriptLine) → ReadAll old new bytes → IsScript bytes script → All IsGroupHeld (groups script) → WroteAll before after (print_of (groups script)) → Completed old new before after
completed old new before after bytes script read said held wrote = record {
  bytes = bytes;
  script = script;
  read = read;
  said = said;
  lawful = read_is_lawful bytes script said;
  checked = read_passes bytes script said;
  followed = read_is_followed bytes script said;
  held = held;
  wrote = wrote;
}
