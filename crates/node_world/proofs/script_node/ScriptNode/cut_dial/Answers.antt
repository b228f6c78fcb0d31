use Rattle.std.proofs.lemmas.Result.{IfOk-weaker}
use Rattle.node_world.proofs.Peers.{cuts_dial}
use Rattle.node_world.proofs.script_node.ScriptNode.cut_dial.Goals as goal

pub returns : goal.returns
returns c = IfOk-weaker c.shut_dial.result _ _ (λ out went. cuts_dial c.args.self.now c.args.v out c.shut_dial.new.self went) c.shut_dial.ensures.ok
