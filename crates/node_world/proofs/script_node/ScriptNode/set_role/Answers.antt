use Rattle.node_world.proofs.Armed.{turns_under}
use Rattle.node_world.proofs.Nodes.{inside, turns}
use Rattle.node_world.proofs.script_node.ScriptNode.set_role.Goals as goal

pub returns : goal.returns
returns c =
    let ready = c.place_arm.new.self in
    turns_under c.args.v c.args.call c.args.self.now ready (inside ready c.admin.new.self) c.lift_arm.new.self c.in_ok-out.out c.place_arm.ensures
    (turns ready c.args.v c.args.call c.in_ok-out.out c.admin.new.self c.in_ok-out.ensures.ok) c.lift_arm.ensures
