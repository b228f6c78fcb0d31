use Rattle.cluster_model.proofs.spans.journal_given.Goals as goal
use Rattle.cluster_model.proofs.Backfilling.{items_remain}

pub returns : goal.returns
returns c = record { remains = λ held bs top place r t l. items_remain top place held bs r t l }
