use Rattle.std.proofs.Common.{◌≡◌, ◌++◌, List, ℕ, length}
use Rattle.std.specs.Io.KnownBytes.{Appends}
use Rattle.node_world.specs.World.{PlainWorld, empty_world, groups}
use Rattle.node_world.specs.Rests.{Rests}
use Rattle.node_world.specs.Stands.{WorldStands}
use Rattle.script_text.specs.Transcript.{print_of}
use Rattle.dcp_main.specs.Writes.{HoldOn, to_write}
use Rattle.dcp_main.proofs.output.run_script.Given as goal

abbrev pub invariant-loop-text : goal.invariant-loop-text
invariant-loop-text g l = record {
  plain : PlainWorld;
  stands : WorldStands l.world plain;
  rests : Rests plain;
  done : List ℕ;
  appended : Appends (g.O.Sink.outlet l.initial.output).held (g.O.Sink.outlet l.output).held done;
  rest : done ++ to_write l.text.items plain l.lines ≡ print_of (groups l.initial.lines);
  holds : HoldOn empty_world l.initial.lines plain l.lines;
  faults : (g.O.Sink.outlet l.output).faults ≡ (g.O.Sink.outlet l.initial.output).faults;
}

abbrev pub decreases-loop-text : goal.decreases-loop-text
decreases-loop-text g l = length l.lines
