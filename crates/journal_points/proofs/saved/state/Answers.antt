use Rattle.std.proofs.Common.{ap, reverse, ◌∙◌}
use Rattle.vb_types.specs.Images.{image_of}
use Rattle.branch_model.specs.Journals as journal
use Rattle.journal_points.proofs.Walks.{everything}
use Rattle.journal_points.proofs.saved.state.Goals as goal

pub returns : goal.returns
returns c =
    let image = c.in_ok-image_within.ensures ∙ ap (λ bs. image_of (journal.items_of bs)) (everything (journal.batches (reverse c.args.records.now))) in
    λ i. record { role = c.role_of.ensures i; log = c.in_ok-log_of.ensures i; position = c.place_of.ensures i; cas = c.cas_of_last.ensures i; image = image i }
