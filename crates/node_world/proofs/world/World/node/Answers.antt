use Rattle.std.proofs.Common.{◌∙◌, ◌≡◌, false, is_some, sym, subst, None}
use Rattle.node_world.specs.declared.script_node.ScriptNode.{ScriptNode}
use Rattle.node_world.specs.Stands.{IsNodeIf}
use Rattle.node_world.proofs.OnNodes.{in_kept, in_inside, stands_in, node_hidden, node_seen, same_seat, seen_down, seen_up}
use Rattle.node_world.proofs.Places.{no_node}
use Rattle.node_world.proofs.world.World.node.Goals as goal

pub returns-in_default : goal.returns-in_default
returns-in_default c = λ w stands.
    let none = in_kept c.args.self.now _ c.deref.result.now c.args.n c.node_place.result c.self.view_is c.deref.ensures.value c.node_place.ensures ∙ c.in_default.is in
    subst (λ o. IsNodeIf c.args.n None o) (sym (no_node c.args.self.now.nodes w c.args.n none stands.nodes)) tt

pub returns-then-not-up : goal.returns-then-not-up
returns-then-not-up c = λ w stands.
    node_hidden _ w c.args.n c.in-Some.at c.index.result.now c.index.result.now
    (in_inside c.args.self.now _ c.deref.result.now c.args.n c.node_place.result c.self.view_is c.deref.ensures.value c.node_place.ensures ∙ c.in-Some.is) c.index.ensures (stands_in c.args.self.now _ w c.self.view_is stands)
    (seen_down c.index.result.now.off c.is_up-up.result c.is_up-up.ensures c.if-not-up.true)

pub returns : goal.returns
returns c = λ w stands.
    node_seen _ w c.args.n c.in-Some.at c.index-2.result.now c.index-2.result.now
    (in_inside c.args.self.now _ c.deref.result.now c.args.n c.node_place.result c.self.view_is c.deref.ensures.value c.node_place.ensures ∙ c.in-Some.is) c.index-2.ensures (stands_in c.args.self.now _ w c.self.view_is stands)
    (subst (λ (o : ScriptNode). is_some o.off ≡ false) (same_seat _ c.args.n c.in-Some.at c.index.result.now c.index-2.result.now (in_inside c.args.self.now _ c.deref.result.now c.args.n c.node_place.result c.self.view_is c.deref.ensures.value c.node_place.ensures ∙ c.in-Some.is) c.index.ensures c.index-2.ensures) (seen_up c.index.result.now.off c.is_up-up.result c.is_up-up.ensures c.if-not-up.false))
