use Rattle.std.proofs.Common.{◌≡◌, List, map, ap, reverse, ◌∙◌, Bor}
use Rattle.vb_types.specs.declared.change.Change.{Change}
use Rattle.vb_types.specs.Histories.{upto}
use Rattle.branch_model.specs.Journals.{batches, items_of}
use Rattle.journal_points.specs.Sides.{lasts_sent}
use Rattle.journal_points.proofs.Walks.{everything, ok_as}
use Rattle.journal_points.proofs.backfill.above.Goals as goal

pub returns : goal.returns
returns c =
    let shown = λ (xs : List (Bor Change)). map (λ x. x.now) xs in
    let h : shown c.deref.result.now ≡ items_of (batches (reverse c.args.records.now)) = ap shown c.deref.ensures.value ∙ c.in_ok-standing.ensures ∙ ap items_of (everything (batches (reverse c.args.records.now))) in
    let front : shown c.deref-2.result.now ≡ upto (items_of (batches (reverse c.args.records.now))) c.args.upto = ap shown c.deref-2.ensures.value ∙ c.in_ok-front.ensures ∙ ap (λ g. upto g c.args.upto) h in
    ok_as c.sent_of.result _ _ (ap (lasts_sent c.args.start) front) c.sent_of.ensures
