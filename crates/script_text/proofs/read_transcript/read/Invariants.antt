use Rattle.std.proofs.Common.{◌≡◌, ◌+◌, ◌≤◌, length}
use Rattle.script_text.specs.ReadBack.{read_from, cut_lines, transcript_of}
use Rattle.script_text.proofs.read_transcript.read.Given as goal

abbrev pub invariant-loop-text : goal.invariant-loop-text
invariant-loop-text l = record {
  same : transcript_of l.bytes ≡ read_from l.line l.reading (cut_lines l.rest);
  within : l.line + length l.rest ≤ length l.bytes + 1;
}

abbrev pub decreases-loop-text : goal.decreases-loop-text
decreases-loop-text l = length l.rest
