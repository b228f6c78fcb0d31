use Rattle.std.proofs.Common.{◌≡◌, max, reverse}
use Rattle.branch_model.specs.Journals as journal
use Rattle.journal_points.specs.Limits.{standing_within}
use Rattle.journal_points.proofs.ends.roll_point.Given as goal

abbrev pub invariant-loop-batch : goal.invariant-loop-batch
invariant-loop-batch l =
    max l.point (journal.greatest (journal.complete_ends (standing_within l.batch-iterator.least (reverse l.batch-iterator.records.now)))) ≡ journal.roll_point (reverse l.records) l.to
