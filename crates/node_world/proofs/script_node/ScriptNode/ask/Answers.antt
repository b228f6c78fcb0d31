use Rattle.std.proofs.Common.{sym, subst}
use Rattle.node_world.specs.Ends.{Carries}
use Rattle.node_world.specs.Stands.{node_number}
use Rattle.node_world.specs.Turns.{admin_line}
use Rattle.node_world.proofs.Nodes.{inside, carries_call}
use Rattle.node_world.proofs.script_node.ScriptNode.ask.Goals as goal

pub returns : goal.returns
returns c =
    subst (λ told. Carries (admin_line (node_number c.args.self.now) c.args.v c.args.call) c.args.self.now told (inside c.args.self.now c.admin.new.self)) (sym c.of.ensures)
    (carries_call c.args.self.now c.args.v c.args.call c.in_ok-out.out c.admin.new.self c.in_ok-out.ensures.ok c.requires)
