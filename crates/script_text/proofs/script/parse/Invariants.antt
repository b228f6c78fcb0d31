use Rattle.std.proofs.Common.{◌≡◌, ◌++◌, ◌+◌, ◌≤◌, length}
use Rattle.std.specs.List.{All, flat_map}
use Rattle.script_text.specs.Lines.{lines_of}
use Rattle.script_text.specs.Scripts.{said_from, verb_line_in, bad_line_in, verb_lines, bad_lines}
use Rattle.script_text.proofs.script.parse.Given as goal

abbrev pub invariant-loop-rest : goal.invariant-loop-rest
invariant-loop-rest l = record {
  lines : verb_lines l.bytes ≡ l.script ++ flat_map verb_line_in (said_from (l.line + 1) (lines_of l.rest));
  bad : bad_lines l.bytes ≡ flat_map bad_line_in (said_from (l.line + 1) (lines_of l.rest));
  within : l.line + length l.rest ≤ length l.bytes;
  numbered : All (λ said. (1 ≤ said.line) × (said.line ≤ length l.bytes)) l.script;
}

abbrev pub decreases-loop-rest : goal.decreases-loop-rest
decreases-loop-rest l = length l.rest
