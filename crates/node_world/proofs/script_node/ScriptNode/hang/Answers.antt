use Rattle.std.proofs.Common.{◌∙◌, sym, ap, subst}
use Rattle.node_world.specs.Ends.{Carries}
use Rattle.node_world.specs.Nodes.{done, hang_at}
use Rattle.node_world.proofs.Clients.{reseated, hangs}
use Rattle.node_world.proofs.script_node.ScriptNode.hang.Goals as goal

pub returns : goal.returns
returns c =
    subst (λ told. Carries (hang_at c.args.c) c.args.self.now told (reseated c.args.self.now c.shut.new.self c.remove.new.self)) (sym (c.done.ensures ∙ ap done c.new.ensures))
    (hangs c.args.self.now c.args.c c.in-Some.key c.shut.new.self c.remove.new.self (sym c.in-Some.ensures.value) c.shut.result c.shut.ensures c.in-Some.ensures.rest)
