use Rattle.node_world.proofs.Starting.{starts}
use Rattle.node_world.proofs.script_node.ScriptNode.start_one.Goals as goal

pub returns : goal.returns
returns c =
    starts c.args.self.now c.place_arm.new.self c.lift_arm.new.self c.args.v c.args.uuid c.in_ok-told.told c.start.new.self c.place_arm.ensures c.in_ok-told.ensures.ok c.start.ensures.rest c.lift_arm.ensures
