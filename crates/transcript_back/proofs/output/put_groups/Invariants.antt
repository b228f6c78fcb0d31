use Rattle.std.proofs.Common.{◌≡◌, ◌++◌, List, ℕ, drop}
use Rattle.std.specs.Io.KnownBytes.{Appends}
use Rattle.script_text.specs.Transcript.{print_of}
use Rattle.transcript_back.proofs.output.put_groups.Given as goal

abbrev pub invariant-loop-group : goal.invariant-loop-group
invariant-loop-group g l = record {
  done : List ℕ;
  appended : Appends (g.O.Sink.outlet l.initial.output).held (g.O.Sink.outlet l.output).held done;
  rest : done ++ print_of (drop l.group-index l.groups) ≡ print_of l.groups;
  faults : (g.O.Sink.outlet l.output).faults ≡ (g.O.Sink.outlet l.initial.output).faults;
}
