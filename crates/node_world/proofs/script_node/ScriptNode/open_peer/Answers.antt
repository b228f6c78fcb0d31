use Rattle.std.proofs.lemmas.Result.{IfOk-weaker}
use Rattle.node_world.proofs.Peers.{opens_peer}
use Rattle.node_world.proofs.script_node.ScriptNode.open_peer.Goals as goal

pub returns : goal.returns
returns c = IfOk-weaker c.open.result _ _ (λ key opened. opens_peer c.args.self.now c.args.link c.args.base key c.open.new.self opened) c.open.ensures.ok
