use Rattle.std.proofs.Common.{◌≡◌, ◌+◌, ◌*◌, ◌^◌, ◌<◌, ◌≤◌, length}
use Rattle.node_world.specs.World.{PlainWorld, groups, groups_from}
use Rattle.node_world.specs.Rests.{Rests}
use Rattle.node_world.specs.Stands.{WorldStands}
use Rattle.script_gen.specs.Scripts.{gen_script}
use Rattle.dcp_main.specs.Sums.{kept_of, none_kept}
use Rattle.dcp_main.proofs.summary.run_made.Given as goal

abbrev pub invariant-loop-summary : goal.invariant-loop-summary
invariant-loop-summary l = record {
  plain : PlainWorld;
  stands : WorldStands l.world plain;
  rests : Rests plain;
  rest : kept_of l.summary (groups_from plain l.script) ≡ kept_of none_kept (groups (gen_script l.seed l.count));
  many : l.summary.script + length l.script < 2 ^ 34;
  told : l.summary.transcript ≤ l.summary.script * 2 ^ 65;
}

abbrev pub decreases-loop-summary : goal.decreases-loop-summary
decreases-loop-summary l = length l.script
