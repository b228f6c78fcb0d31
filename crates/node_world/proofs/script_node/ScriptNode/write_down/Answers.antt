use Rattle.std.proofs.lemmas.Result.{IfOk-weaker}
use Rattle.node_world.proofs.Nodes.{inside, flushes}
use Rattle.node_world.proofs.Posting.{writes}
use Rattle.node_world.proofs.script_node.ScriptNode.write_down.Goals as goal

pub returns : goal.returns
returns c =
    let old = c.args.self.now in
    IfOk-weaker c.tell_out.result _ _
    (λ told went. writes c.args.v c.args.part old (inside old c.flush.new.self) c.tell_out.new.self c.in_ok-out.out told (flushes old c.args.v c.args.part c.in_ok-out.out c.flush.new.self c.in_ok-out.ensures.ok) went) c.tell_out.ensures
