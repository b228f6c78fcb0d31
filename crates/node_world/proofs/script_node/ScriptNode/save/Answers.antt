use Rattle.node_world.proofs.Armed.{saves}
use Rattle.node_world.proofs.script_node.ScriptNode.save.Goals as goal

pub returns : goal.returns
returns c =
    saves c.args.v c.args.self.now c.place_arm.new.self c.write_down.new.self c.lift_arm.new.self c.in_ok-told.told c.place_arm.ensures c.in_ok-told.ensures c.lift_arm.ensures
