use Rattle.std.proofs.Common.{sym, subst}
use Rattle.node_world.specs.Ends.{IsThere}
use Rattle.node_world.proofs.Nodes.{inside, is_there}
use Rattle.node_world.proofs.script_node.ScriptNode.has.Goals as goal

pub returns : goal.returns
returns c =
    subst (λ there. IsThere c.args.v c.args.self.now there (inside c.args.self.now c.admin.new.self)) (sym c.was_there.ensures)
    (is_there c.args.self.now c.args.v c.in_ok-out.out c.admin.new.self c.in_ok-out.ensures.ok)
