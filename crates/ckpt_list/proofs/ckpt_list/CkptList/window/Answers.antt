use Rattle.std.proofs.Common.{◌≡◌, ◌≤◌, Some, ltb, ap, sym, subst, ◌∙◌, arith}
use Rattle.std.specs.List.{find}
use Rattle.vb_types.specs.declared.position.Position.{Position}
use Rattle.vb_calls.specs.declared.span.Span.{Span}
use Rattle.vb_calls.specs.declared.span.TheConstants.{MAX_WEIGHT}
use Rattle.vb_calls.specs.Spans.{all_spans}
use Rattle.branch_model.proofs.Lists.{rises_le}
use Rattle.checkpoint.specs.Checkpoints.{items_weight}
use Rattle.ckpt_list.specs.Lists.{Ckpts, between, held_of, spans_of}
use Rattle.ckpt_list.specs.Sound.{HasWholes, IsBatch}
use Rattle.ckpt_list.proofs.Weights.{batch_at, position_at}
use Rattle.ckpt_list.proofs.ckpt_list.CkptList.window.Goals as goal

pub prove-unreachable-requires : goal.prove-unreachable-requires
prove-unreachable-requires c =
    let m : c.self.inside.newest.above ≤ c.last.result = rises_le _ _ _ c.last.ensures.rises in
    omega (arith, m, c.above.ensures, c.if-prove.true)

pub returns-in-Some-clause-batch : goal.returns-in-Some-clause-batch
returns-in-Some-clause-batch c =
    let l : Ckpts = c.args.self.now in
    let w : Span = c.in-Some.span in
    let found : find (λ v. ltb c.args.place v.last) (all_spans (spans_of l)) ≡ Some w = sym c.span_above.ensures.span ∙ c.in-Some.is in
    let at : c.position_of.result.at ≡ w.last = ap (λ (p : Position). p.at) c.position_of.ensures ∙ position_at w.origin w.last in
    let light : items_weight l.newest.items ≤ MAX_WEIGHT = subst (λ (m : Ckpts). items_weight m.newest.items ≤ MAX_WEIGHT) c.self.view_is c.last.ensures.light in
    subst (λ n. IsBatch c.args.place n (between c.args.place n (held_of l))) (sym at)
    (batch_at l c.self.inside.wholes.items c.args.place w (subst (λ (m : Ckpts). HasWholes m c.self.inside.wholes.items) c.self.view_is c.self.invariant) light found)
