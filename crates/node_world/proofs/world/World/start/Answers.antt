use Rattle.std.proofs.Common.{◌≡◌, ◌∙◌, sym, subst, true, is_some}
use Rattle.std.proofs.lemmas.Result.{IfOk-weaker}
use Rattle.node_world.specs.declared.script_node.ScriptNode.{ScriptNode}
use Rattle.node_world.proofs.OnNodes.{in_kept, in_inside, made_at, seen_down, stands_in, up_at, same_seat}
use Rattle.node_world.proofs.Places.{no_node}
use Rattle.node_world.proofs.Restarts.{start_free, start_unmade, start_up, start_used, start_zero, started}
use Rattle.node_world.proofs.world.World.start.Goals as goal

pub returns-in_default : goal.returns-in_default
returns-in_default c = λ w stands.
    let none = in_kept c.args.self.now _ c.deref.result.now c.args.n c.node_place.result c.self.view_is c.deref.ensures.value c.node_place.ensures ∙ c.in_default.is in
    let known = start_unmade c.args.self.now w c.args.n c.args.uuids.now (no_node c.args.self.now.nodes w c.args.n none stands.nodes) stands in
    (known.0, c.refusal.ensures ∙ known.1)

pub returns-then-up : goal.returns-then-up
returns-then-up c = λ w stands.
    let place = in_inside c.args.self.now _ c.deref.result.now c.args.n c.node_place.result c.self.view_is c.deref.ensures.value c.node_place.ensures ∙ c.in-Some.is in
    let inside = stands_in c.args.self.now _ w c.self.view_is stands in
    let known = start_up c.args.self.now w c.args.n c.args.uuids.now (made_at _ w c.args.n c.in-Some.at c.index.result.now c.index.result.now place c.index.ensures inside)
    (up_at _ w c.args.n c.in-Some.at c.index.result.now c.index.result.now place c.index.ensures inside ∙ sym c.is_up-up.ensures ∙ c.if-up.true) stands in
    (known.0, c.refusal-then-up.ensures ∙ known.1)

pub returns-then-zero : goal.returns-then-zero
returns-then-zero c = λ w stands.
    let place = in_inside c.args.self.now _ c.deref.result.now c.args.n c.node_place.result c.self.view_is c.deref.ensures.value c.node_place.ensures ∙ c.in-Some.is in
    let inside = stands_in c.args.self.now _ w c.self.view_is stands in
    let known = start_zero c.args.self.now w c.args.n c.args.uuids.now (made_at _ w c.args.n c.in-Some.at c.index.result.now c.index.result.now place c.index.ensures inside)
    (up_at _ w c.args.n c.in-Some.at c.index.result.now c.index.result.now place c.index.ensures inside ∙ sym c.is_up-up.ensures ∙ c.if-up.false) (sym c.contains-zero.ensures.value ∙ c.if-zero.true) stands in
    (known.0, c.refusal-then-zero.ensures ∙ known.1)

pub returns-then-used : goal.returns-then-used
returns-then-used c = λ w stands.
    let place = in_inside c.args.self.now _ c.deref.result.now c.args.n c.node_place.result c.self.view_is c.deref.ensures.value c.node_place.ensures ∙ c.in-Some.is in
    let inside = stands_in c.args.self.now _ w c.self.view_is stands in
    let known = start_used c.args.self.now w c.args.n c.args.uuids.now (made_at _ w c.args.n c.in-Some.at c.index.result.now c.index.result.now place c.index.ensures inside)
    (up_at _ w c.args.n c.in-Some.at c.index.result.now c.index.result.now place c.index.ensures inside ∙ sym c.is_up-up.ensures ∙ c.if-up.false) (sym c.contains-zero.ensures.value ∙ c.if-zero.false)
    (sym (c.any_used-used.ensures w.uuids inside.ids) ∙ c.if-used.true) stands in
    (known.0, c.refusal-then-used.ensures ∙ known.1)

pub returns : goal.returns
returns c = IfOk-weaker c.start.result _ _ (λ told starts w stands.
    let place = in_inside c.args.self.now _ c.deref.result.now c.args.n c.node_place.result c.self.view_is c.deref.ensures.value c.node_place.ensures ∙ c.in-Some.is in
    let inside = stands_in c.args.self.now _ w c.self.view_is stands in
    let down = seen_down c.index.result.now.off c.is_up-up.result c.is_up-up.ensures c.if-up.false in
    start_free c.args.self.now w c.args.n c.args.uuids.now _ told (made_at _ w c.args.n c.in-Some.at c.index.result.now c.index.result.now place c.index.ensures inside)
    (up_at _ w c.args.n c.in-Some.at c.index.result.now c.index.result.now place c.index.ensures inside ∙ sym c.is_up-up.ensures ∙ c.if-up.false) (sym c.contains-zero.ensures.value ∙ c.if-zero.false) (sym (c.any_used-used.ensures w.uuids inside.ids) ∙ c.if-used.false)
    (started _ w c.args.n c.in-Some.at c.args.uuids.now c.index_mut.result.now c.start.new.self told place c.index_mut.ensures.value inside
    (subst (λ (o : ScriptNode). is_some o.off ≡ true) (same_seat _ c.args.n c.in-Some.at c.index.result.now c.index_mut.result.now (in_inside c.args.self.now _ c.deref.result.now c.args.n c.node_place.result c.self.view_is c.deref.ensures.value c.node_place.ensures ∙ c.in-Some.is) c.index.ensures c.index_mut.ensures.value) down) starts)) c.start.ensures
