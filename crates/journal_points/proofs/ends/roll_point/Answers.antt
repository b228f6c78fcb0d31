use Rattle.std.proofs.Common.{ap, reverse, ◌∙◌}
use Rattle.journal_points.specs.declared.standing.Standing.{Standing}
use Rattle.journal_points.specs.Limits.{standing_within}
use Rattle.journal_points.proofs.Walks.{rolls_from}
use Rattle.journal_points.proofs.ends.roll_point.Goals as goal

pub loop-batch-init : goal.loop-batch-init
loop-batch-init c =
    rolls_from (reverse c.args.records.now) c.args.to _
    (ap (λ (s : Standing). standing_within s.least (reverse s.records.now)) c.into_iter-batch-iterator.ensures.into_iter_gives ∙ c.new-batch-items.ensures)
