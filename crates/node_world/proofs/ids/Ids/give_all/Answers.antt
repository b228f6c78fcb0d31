use Rattle.std.proofs.Common.{◌++◌, take}
use Rattle.std.specs.List.{flat_map}
use Rattle.node_world.specs.World.{branch_of_line}
use Rattle.node_world.proofs.Given.{given_more}
use Rattle.node_world.proofs.ids.Ids.give_all.Goals as goal

pub loop-event-preserved : goal.loop-event-preserved
loop-event-preserved c = λ uuids stands.
    given_more c.give_told.new.self uuids c.args.events.now c.loop-event.event-index c.event-item.result c.loop-event-test.true c.event-item.is
    (c.in_ok-give_told.ensures (uuids ++ flat_map branch_of_line (take c.loop-event.event-index c.args.events.now)) (c.loop-event.invariant uuids stands))
