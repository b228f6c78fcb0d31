use Rattle.std.proofs.Common.{◌∙◌, sym, subst}
use Rattle.node_world.specs.Ends.{Carries}
use Rattle.node_world.specs.Nodes.{pull_at}
use Rattle.node_world.proofs.Clients.{reseated, pulls}
use Rattle.node_world.proofs.script_node.ScriptNode.pull_client.Goals as goal

pub returns : goal.returns
returns c =
    let old = c.args.self.now in
    subst (λ told. Carries (pull_at c.args.c c.args.frames) old told (reseated old c.pull.new.self old.clients)) (sym c.of.ensures)
    (pulls old c.args.c c.in-Some.key c.args.frames c.in_ok-out.out c.pull.new.self (sym c.get.ensures ∙ sym c.copied.ensures ∙ c.in-Some.is) c.in_ok-out.ensures.ok)
