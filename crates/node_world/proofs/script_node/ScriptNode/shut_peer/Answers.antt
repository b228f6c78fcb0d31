use Rattle.node_world.proofs.Peers.{shuts_peer}
use Rattle.node_world.proofs.script_node.ScriptNode.shut_peer.Goals as goal

pub returns : goal.returns
returns c = shuts_peer c.args.self.now c.args.conn c.shut.result c.shut.new.self c.shut.ensures
