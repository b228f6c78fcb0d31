use Rattle.std.proofs.lemmas.Result.{IfOk-weaker}
use Rattle.node_world.proofs.Yielding.{gives_peer}
use Rattle.node_world.proofs.script_node.ScriptNode.give_up.Goals as goal

pub returns : goal.returns
returns c = IfOk-weaker c.give_up.result _ _ (λ out went. gives_peer c.args.self.now c.args.key c.args.frames out c.give_up.new.self went) c.give_up.ensures.ok
