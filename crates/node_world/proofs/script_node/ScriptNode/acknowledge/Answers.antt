use Rattle.std.proofs.lemmas.Result.{IfOk-weaker}
use Rattle.node_world.proofs.Peers.{dues_dial}
use Rattle.node_world.proofs.script_node.ScriptNode.acknowledge.Goals as goal

pub returns : goal.returns
returns c = IfOk-weaker c.acknowledge.result _ _ (λ out went. dues_dial c.args.self.now c.args.v out c.acknowledge.new.self went) c.acknowledge.ensures.ok
