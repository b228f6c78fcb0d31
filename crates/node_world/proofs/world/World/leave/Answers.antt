use Rattle.std.proofs.Common.{◌≡◌, ◌<◌, ◌∙◌, sym, subst, List, length, refl}
use Rattle.std.specs.Vec.{with_items}
use Rattle.std.proofs.lemmas.List.{with_items_is}
use Rattle.node_world.specs.declared.script_node.ScriptNode.{ScriptNode}
use Rattle.node_world.specs.Ends.{Unlinks}
use Rattle.node_world.specs.Stands.{Kept}
use Rattle.node_world.proofs.OnLinks.{left_link}
use Rattle.node_world.proofs.world.World.leave.Goals as goal

pub returns-then-over : goal.returns-then-over
returns-then-over c =
    let nodes : (with_items c.self.inside.nodes c.shut.new.nodes).items ≡ c.shut.new.nodes = with_items_is c.self.inside.nodes c.shut.new.nodes (c.shut.auto.nodes ∙ c.deref_mut.ensures.len) in
    left_link c.args.at c.args.over c.args.self.now _ _ c.remove-link.result c.if-over.true c.self.view_is (subst (λ (k : Kept). c.args.at < length k.links) (sym c.self.view_is) (c.requires c.if-over.true)) c.remove-link.ensures.value
    (subst (λ ns. Unlinks c.remove-link.result c.self.inside.nodes.items ns) (sym nodes) (subst (λ (ns : List ScriptNode). Unlinks c.remove-link.result ns c.shut.new.nodes) c.deref_mut.ensures.value c.shut.ensures))
    c.remove-link.ensures.items refl
