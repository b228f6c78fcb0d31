use Rattle.std.proofs.Common.{◌≡◌, ◌≤◌, ◌++◌}
use Rattle.std.specs.List.{flat_map}
use Rattle.disk_journals.specs.Books.{below}
use Rattle.node_world.specs.Power.{closed_line}
use Rattle.node_world.specs.Stands.{WorldStands}
use Rattle.node_world.specs.Worlds.{PlainWorld}
use Rattle.node_world.proofs.world.World.tell_closed.Given as goal

abbrev pub invariant-loop-client : goal.invariant-loop-client
invariant-loop-client l = record {
  within : l.client ≤ 1000;
  told : (w : PlainWorld) → WorldStands l.self w → l.events ≡ l.fn.events ++ flat_map (closed_line l.node (w.nodes l.node)) (below l.client);
}
