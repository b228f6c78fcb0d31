use Rattle.std.proofs.Common.{◌≡◌, ◌∙◌, subst, List, set}
use Rattle.std.specs.Vec.{with_items}
use Rattle.std.proofs.lemmas.List.{with_items_is}
use Rattle.node_world.specs.declared.script_node.ScriptNode.{ScriptNode}
use Rattle.node_world.specs.Ends.{LinkStep, LeavesLink}
use Rattle.node_world.proofs.OnLinks.{link_in, link_kept, closed_line, open_line}
use Rattle.node_world.proofs.OnNodes.{stands_in}
use Rattle.node_world.proofs.world.World.on_link.Goals as goal

pub returns-in_default : goal.returns-in_default
returns-in_default c = λ w stands.
    let known = closed_line c.args.self.now w c.args.line c.args.l (link_kept c.args.self.now _ c.deref.result.now c.args.l c.link_place.result c.self.view_is c.deref.ensures.value c.link_place.ensures ∙ c.in_default.is) stands in
    (known.0, c.refusal.ensures ∙ known.1)

pub returns : goal.returns
returns c = λ w stands.
    let nodes : (with_items c.self.inside.nodes c.link_line.new.nodes).items ≡ c.link_line.new.nodes = with_items_is c.self.inside.nodes c.link_line.new.nodes (c.link_line.auto.nodes ∙ c.deref_mut.ensures.len) in
    open_line _ w c.args.line c.args.l c.in-Some.at c.index_mut.result.now c.link_line.new.link c.in_ok-came.came.told c.in_ok-came.came.over c.link_line.new.nodes
    (link_in c.self.inside.links.items c.deref.result.now c.args.l c.link_place.result c.deref.ensures.value c.link_place.ensures ∙ c.in-Some.is) c.index_mut.ensures.value (stands_in c.args.self.now _ w c.self.view_is stands)
    (subst (λ (ns : List ScriptNode). LinkStep c.args.line ns c.index_mut.result.now c.in_ok-came.came.told c.in_ok-came.came.over c.link_line.new.nodes c.link_line.new.link) c.deref_mut.ensures.value c.in_ok-came.ensures)
    c.leave.new.self
    (subst (λ (ns : List ScriptNode). LeavesLink c.in-Some.at c.in_ok-came.came.over (record { nodes = ns; ids = c.self.inside.ids; links = set c.self.inside.links.items c.in-Some.at c.link_line.new.link }) c.leave.new.self) nodes c.leave.ensures)
