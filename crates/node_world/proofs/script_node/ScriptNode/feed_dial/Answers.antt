use Rattle.node_world.proofs.Armed.{feeds_under}
use Rattle.node_world.proofs.Nodes.{inside}
use Rattle.node_world.proofs.Peers.{feeds_dial}
use Rattle.node_world.proofs.script_node.ScriptNode.feed_dial.Goals as goal

pub returns : goal.returns
returns c =
    let ready = c.place_arm.new.self in
    feeds_under c.args.v c.args.piece.now c.args.self.now ready (inside ready c.feed_dial.new.self) c.lift_arm.new.self c.in_ok-out.out c.place_arm.ensures
    (feeds_dial ready c.args.v c.in_ok-out.out c.feed_dial.new.self c.args.piece.now c.in_ok-out.ensures.ok) c.lift_arm.ensures
