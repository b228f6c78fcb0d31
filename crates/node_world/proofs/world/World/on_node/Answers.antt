use Rattle.std.proofs.Common.{◌∙◌, ◌≡◌, subst, get_or, false, is_some}
use Rattle.std.proofs.lemmas.Result.{IfOk-weaker}
use Rattle.node_world.specs.declared.script_node.ScriptNode.{ScriptNode}
use Rattle.node_world.specs.Lines.{at_node}
use Rattle.node_world.specs.Stands.{Kept}
use Rattle.node_world.proofs.OnNodes.{in_kept, in_inside, stands_in, absent_line, down_line, node_line, seen_down, seen_up, same_seat}
use Rattle.node_world.proofs.world.World.on_node.Goals as goal

pub returns-in_default : goal.returns-in_default
returns-in_default c = λ w stands.
    let none = in_kept c.args.self.now _ c.deref.result.now c.args.n c.node_place.result c.self.view_is c.deref.ensures.value c.node_place.ensures ∙ c.in_default.is in
    let known = absent_line c.args.self.now w c.args.n (at_node w.uuids c.args.n c.args.line) none stands in
    (known.0, c.refusal.ensures ∙ known.1)

pub returns-then-not-up : goal.returns-then-not-up
returns-then-not-up c = λ w stands.
    let known = down_line c.args.self.now w c.args.n c.in-Some.at c.index.result.now c.index.result.now (in_kept c.args.self.now _ c.deref.result.now c.args.n c.node_place.result c.self.view_is c.deref.ensures.value c.node_place.ensures ∙ c.in-Some.is) (subst (λ (k : Kept). c.index.result.now ≡ get_or k.nodes c.in-Some.at c.index.result.now) c.self.view_is c.index.ensures) stands
    (seen_down c.index.result.now.off c.is_up-up.result c.is_up-up.ensures c.if-not-up.true) (at_node w.uuids c.args.n c.args.line) in
    (known.0, c.refusal-then-not-up.ensures ∙ known.1)

pub returns : goal.returns
returns c = IfOk-weaker c.tell.result _ _ (λ told carried w stands.
    let inside = stands_in c.args.self.now _ w c.self.view_is stands in
    node_line _ w c.args.n c.in-Some.at c.index_mut.result.now c.tell.new.self (in_inside c.args.self.now _ c.deref.result.now c.args.n c.node_place.result c.self.view_is c.deref.ensures.value c.node_place.ensures ∙ c.in-Some.is)
    c.index_mut.ensures.value inside (subst (λ (o : ScriptNode). is_some o.off ≡ false) (same_seat _ c.args.n c.in-Some.at c.index.result.now c.index_mut.result.now (in_inside c.args.self.now _ c.deref.result.now c.args.n c.node_place.result c.self.view_is c.deref.ensures.value c.node_place.ensures ∙ c.in-Some.is) c.index.ensures c.index_mut.ensures.value) (seen_up c.index.result.now.off c.is_up-up.result c.is_up-up.ensures c.if-not-up.false)) (λ m. at_node w.uuids m c.args.line) told (carried w.uuids inside.ids)) c.tell.ensures
