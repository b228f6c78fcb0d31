use Rattle.std.proofs.Common.{◌≡◌, ◌≤◌, ◌++◌}
use Rattle.std.specs.List.{flat_map}
use Rattle.disk_journals.specs.Books.{below}
use Rattle.node_world.specs.Power.{end_line}
use Rattle.node_world.specs.Stands.{WorldStands}
use Rattle.node_world.specs.Worlds.{PlainWorld}
use Rattle.node_world.proofs.world.World.tell_ends.Given as goal

abbrev pub invariant-loop-link : goal.invariant-loop-link
invariant-loop-link l = record {
  within : l.link ≤ 1000;
  told : (w : PlainWorld) → WorldStands l.self w → l.events ≡ l.fn.events ++ flat_map (end_line l.n l.also w.links) (below l.link);
}
