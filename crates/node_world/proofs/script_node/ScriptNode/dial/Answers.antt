use Rattle.std.proofs.lemmas.Result.{IfOk-weaker}
use Rattle.node_world.proofs.Peers.{dials_for}
use Rattle.node_world.proofs.script_node.ScriptNode.dial.Goals as goal

pub returns : goal.returns
returns c = IfOk-weaker c.dial.result _ _ (λ out went. dials_for c.args.self.now c.args.v out c.dial.new.self c.args.link c.args.buffer c.args.takeover c.args.is_free went) c.dial.ensures.ok
