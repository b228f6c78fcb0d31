use Rattle.std.proofs.lemmas.Result.{IfOk-weaker}
use Rattle.node_world.proofs.Peers.{pulls_peer}
use Rattle.node_world.proofs.script_node.ScriptNode.pull.Goals as goal

pub returns : goal.returns
returns c = IfOk-weaker c.pull.result _ _ (λ out went. pulls_peer c.args.self.now c.args.key out c.pull.new.self c.args.frames went) c.pull.ensures.ok
