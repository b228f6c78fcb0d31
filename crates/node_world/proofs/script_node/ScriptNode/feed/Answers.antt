use Rattle.std.proofs.Common.{◌∙◌, sym, subst}
use Rattle.node_world.specs.Ends.{Carries}
use Rattle.node_world.specs.Nodes.{bytes_at}
use Rattle.node_world.proofs.Clients.{reseated, feeds}
use Rattle.node_world.proofs.script_node.ScriptNode.feed.Goals as goal

pub returns : goal.returns
returns c =
    subst (λ told. Carries (bytes_at c.args.c c.args.piece.now) c.args.self.now told (reseated c.args.self.now c.feed.new.self c.forget_if.new.clients)) (sym c.of.ensures)
    (feeds c.args.self.now c.args.c c.in-Some.key c.feed.new.self c.forget_if.new.clients (sym c.get.ensures ∙ sym c.copied.ensures ∙ c.in-Some.is) c.args.piece.now c.in_ok-out.out c.in_ok-out.ensures.ok c.forget_if.ensures)
