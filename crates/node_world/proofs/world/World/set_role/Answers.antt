use Rattle.std.proofs.Common.{◌∙◌, ◌≡◌, false, get_or, is_some, subst}
use Rattle.std.proofs.lemmas.Result.{IfOk-weaker}
use Rattle.node_world.specs.declared.script_node.ScriptNode.{ScriptNode}
use Rattle.node_world.specs.Rests.{RestsIf}
use Rattle.node_world.specs.Stands.{Kept}
use Rattle.node_world.specs.Worlds.{shelf_in}
use Rattle.node_world.proofs.OnNodes.{in_inside, in_kept, seen_down, seen_up, stands_in, same_seat}
use Rattle.node_world.proofs.Resting.{same_arm}
use Rattle.node_world.proofs.Turning.{down_turn, turned_line, unmade_turn}
use Rattle.node_world.proofs.world.World.set_role.Goals as goal

pub returns-in_default : goal.returns-in_default
returns-in_default c = λ w stands rests.
    let known = unmade_turn c.args.self.now w c.args.n c.args.v c.args.call (in_kept c.args.self.now _ c.deref.result.now c.args.n c.node_place.result c.self.view_is c.deref.ensures.value c.node_place.ensures ∙ c.in_default.is) stands in
    (known.0, c.refusal.ensures ∙ known.1)

pub returns-then-not-up : goal.returns-then-not-up
returns-then-not-up c = λ w stands rests.
    let known = down_turn c.args.self.now w c.args.n c.args.v c.in-Some.at c.args.call c.index.result.now
    (in_kept c.args.self.now _ c.deref.result.now c.args.n c.node_place.result c.self.view_is c.deref.ensures.value c.node_place.ensures ∙ c.in-Some.is)
    (subst (λ (k : Kept). c.index.result.now ≡ get_or k.nodes c.in-Some.at c.index.result.now) c.self.view_is c.index.ensures) (seen_down c.index.result.now.off c.is_up-up.result c.is_up-up.ensures c.if-not-up.true) stands in
    (known.0, c.refusal-then-not-up.ensures ∙ known.1)

pub returns : goal.returns
returns c = IfOk-weaker c.tell_out.result _ _ (λ told posts w stands rests.
    turned_line _ w c.args.n c.args.v c.in-Some.at c.args.call c.index_mut.result.now c.set_role.new.self c.in_ok-out.out
    (in_inside c.args.self.now _ c.deref.result.now c.args.n c.node_place.result c.self.view_is c.deref.ensures.value c.node_place.ensures ∙ c.in-Some.is) c.index_mut.ensures.value (stands_in c.args.self.now _ w c.self.view_is stands)
    c.requires c.in_ok-out.ensures
    (subst (λ (o : ScriptNode). is_some o.off ≡ false) (same_seat _ c.args.n c.in-Some.at c.index.result.now c.index_mut.result.now (in_inside c.args.self.now _ c.deref.result.now c.args.n c.node_place.result c.self.view_is c.deref.ensures.value c.node_place.ensures ∙ c.in-Some.is) c.index.ensures c.index_mut.ensures.value) (seen_up c.index.result.now.off c.is_up-up.result c.is_up-up.ensures c.if-not-up.false))
    (λ plain there. same_arm c.args.v plain (subst (λ o. RestsIf (shelf_in o c.args.v)) there (rests c.args.n c.args.v))) c.leave_own.new.self c.tell_out.new.self told posts c.leave_own.ensures) c.tell_out.ensures
