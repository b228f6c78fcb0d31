use Rattle.std.proofs.Common.{◌≤◌}
use Rattle.node_world.specs.Stands.{WorldStands}
use Rattle.node_world.specs.Starts.{Cutting}
use Rattle.node_world.specs.Worlds.{PlainWorld}
use Rattle.node_world.proofs.world.World.cut_links_of.Given as goal

abbrev pub invariant-loop-turn : goal.invariant-loop-turn
invariant-loop-turn l = record {
  within : l.turn ≤ l.count;
  cut : (w : PlainWorld) → WorldStands l.fn.self w → Cutting l.n l.count l.turn l.self w;
}
