use Rattle.std.proofs.Common.{◌≡◌, ◌+◌, ◌<◌, ◌≤◌, List, true, sym, ap, subst, ◌∙◌}
use Rattle.vb_types.specs.declared.change.Change.{Change}
use Rattle.vb_calls.specs.Spans.{change_weight}
use Rattle.checkpoint.specs.Checkpoints.{ckpt_last, ckpt_with, fits_in, items_weight}
use Rattle.checkpoint.specs.Finds.{weight_at, without}
use Rattle.checkpoint.proofs.Places.{are_below, finds_after, gone_le, measured_after, entered_values}
use Rattle.checkpoint.proofs.checkpoint.Checkpoint.put.Goals as goal

pub enter-requires : goal.enter-requires
enter-requires c =
    let k = c.self.invariant in
    let l : c.self.inside.last < c.args.change.seq = subst (λ n. n < c.args.change.seq) (sym (k.1.ends ∙ ap ckpt_last c.self.view_is)) c.requires.above in
    are_below c.self.inside.above c.self.inside.last _ _ k.1.rises l

pub overflow_sub-self : goal.overflow_sub-self
overflow_sub-self c =
    let cs : List Change = c.self.inside.changes in
    let weight : c.weight_with-weight.result ≡ items_weight cs + change_weight c.args.change =
    c.weight_with-weight.ensures.weight ∙ ap (λ k. items_weight k.items + change_weight c.args.change) (sym c.self.view_is) in
    let gone = c.replace.ensures.weight ∙ ap (weight_at c.in_ok-earlier.earlier) c.in_ok-earlier.ensures.changes in
    subst (λ n. n ≤ c.weight_with-weight.result) (sym gone)
    (gone_le c.self.inside.above c.self.inside.last cs _ c.args.change c.in_ok-earlier.earlier c.weight_with-weight.result c.self.invariant.0 c.self.invariant.1.rises c.in_ok-earlier.ensures.earlier weight)

pub invariant_of-self-2 : goal.invariant_of-self-2
invariant_of-self-2 c =
    let cs : List Change = c.self.inside.changes in
    let k = c.self.invariant in
    let named = c.in_ok-earlier.ensures.earlier in
    let weight : c.weight_with-weight.result ≡ items_weight cs + change_weight c.args.change =
    c.weight_with-weight.ensures.weight ∙ ap (λ s. items_weight s.items + change_weight c.args.change) (sym c.self.view_is) in
    let gone = c.replace.ensures.weight ∙ ap (weight_at c.in_ok-earlier.earlier) c.in_ok-earlier.ensures.changes in
    let left = c.replace.ensures.changes ∙ ap (without c.in_ok-earlier.earlier) c.in_ok-earlier.ensures.changes in
    let l : c.self.inside.last < c.args.change.seq = subst (λ n. n < c.args.change.seq) (sym (k.1.ends ∙ ap ckpt_last c.self.view_is)) c.requires.above in
    let fits : fits_in true cs c.args.change ≡ true = ap (λ s. fits_in true s.items c.args.change) c.self.view_is ∙ c.requires.fits in (
      finds_after c.self.inside.above c.self.inside.last cs _ _ _ c.args.change c.in_ok-earlier.earlier k.0 k.1.rises l named left c.in_ok-earlier.ensures.seqs,
      measured_after c.self.inside.above c.self.inside.last c.weight_with-weight.result c.replace.result cs _ _ c.args.change c.in_ok-earlier.earlier k.0 k.1.rises l named fits left weight gone,
    )

pub returns-clause-ok : goal.returns-clause-ok
returns-clause-ok c =
    let cs : List Change = c.self.inside.changes in
    let k = c.self.invariant in
    let left = c.replace.ensures.changes ∙ ap (without c.in_ok-earlier.earlier) c.in_ok-earlier.ensures.changes in
    let l : c.self.inside.last < c.args.change.seq = subst (λ n. n < c.args.change.seq) (sym (k.1.ends ∙ ap ckpt_last c.self.view_is)) c.requires.above in
    ap (λ items. record { above = c.self.inside.above; origin = c.self.inside.origin; items = items })
    (left ∙ entered_values c.self.inside.above c.self.inside.last cs c.args.change c.in_ok-earlier.earlier k.0.distinct k.1.rises l (c.in_ok-earlier.ensures.earlier ∙ k.0.found c.args.change.key))
    ∙ ap (λ s. ckpt_with s c.args.change) c.self.view_is
