use Rattle.std.proofs.Common.{◌∙◌, sym, ap, subst, is_some}
use Rattle.node_world.specs.Ends.{Carries}
use Rattle.node_world.specs.Nodes.{done, client_at}
use Rattle.node_world.specs.Stands.{node_number}
use Rattle.node_world.proofs.Clients.{some_copied, reseated, opens}
use Rattle.node_world.proofs.script_node.ScriptNode.open_client.Goals as goal

pub returns : goal.returns
returns c =
    subst (λ told. Carries (client_at (node_number c.args.self.now) c.args.base c.args.client) c.args.self.now told (record (reseated c.args.self.now c.open.new.self c.put.new.self) { bases = c.set.new.self })) (sym (c.done.ensures ∙ ap done c.new.ensures))
    (opens c.args.self.now c.args.base c.args.client c.in_ok-key.key c.open.new.self c.put.new.self c.set.new.self (ap is_some (sym c.get.ensures) ∙ some_copied c.get.result ∙ sym c.is_some.ensures ∙ c.if-is_some.false) c.in_ok-key.ensures.ok c.in_ok-put.ensures.ok c.in_ok-set.ensures)
