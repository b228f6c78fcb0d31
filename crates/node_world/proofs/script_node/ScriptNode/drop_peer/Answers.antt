use Rattle.node_world.proofs.Peers.{drops_peer}
use Rattle.node_world.proofs.script_node.ScriptNode.drop_peer.Goals as goal

pub returns : goal.returns
returns c = drops_peer c.args.self.now c.args.key c.drop_cursor.result c.drop_cursor.new.self c.args.v c.drop_cursor.ensures
