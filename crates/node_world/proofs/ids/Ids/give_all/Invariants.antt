use Rattle.std.proofs.Common.{ℕ, List, ◌++◌, take}
use Rattle.std.specs.List.{flat_map}
use Rattle.node_world.specs.Stands.{IdsStand}
use Rattle.node_world.specs.World.{branch_of_line}
use Rattle.node_world.proofs.ids.Ids.give_all.Given as goal

abbrev pub invariant-loop-event : goal.invariant-loop-event
invariant-loop-event l = (uuids : List ℕ) → IdsStand l.fn.self uuids → IdsStand l.self (uuids ++ flat_map branch_of_line (take l.event-index l.events))
