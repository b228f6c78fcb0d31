use Rattle.std.proofs.Common.{sym, ap}
use Rattle.std.proofs.lemmas.Result.{IfOk-weaker}
use Rattle.node_core.specs.Flushing.{ticked}
use Rattle.node_world.specs.Stands.{node_number}
use Rattle.node_world.proofs.Nodes.{inside, settles}
use Rattle.node_world.proofs.Posting.{settles_told}
use Rattle.node_world.proofs.script_node.ScriptNode.tick.Goals as goal

pub returns : goal.returns
returns c =
    let old = c.args.self.now in
    let n = node_number old in
    IfOk-weaker c.tell_out.result _ _
    (λ told went. settles_told (λ plain. ticked n c.args.v plain.clock) old (inside old c.tick.new.self) c.tell_out.new.self c.in_ok-out.out told
    (settles (λ plain. ticked n c.args.v plain.clock) old (ticked n c.args.v old.clock) c.in_ok-out.out c.tick.new.self (λ plain stands. ap (ticked n c.args.v) (sym stands.clock)) c.in_ok-out.ensures.ok) went)
    c.tell_out.ensures
