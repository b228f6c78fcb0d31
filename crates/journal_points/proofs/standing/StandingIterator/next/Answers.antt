use Rattle.std.proofs.Common.{ap, reverse, ◌∙◌}
use Rattle.std.specs.Prelude.{Some}
use Rattle.journal_points.specs.Limits.{standing_within}
use Rattle.journal_points.proofs.Walks.{roll_batches}
use Rattle.journal_points.proofs.standing.StandingIterator.next.Goals as goal

pub loop-record-preserved : goal.loop-record-preserved
loop-record-preserved c =
    ap (λ n. standing_within (Some n) (reverse c.in-Some.before.now)) c.lower.ensures
    ∙ roll_batches c.loop-record.self.least c.in-Roll.to c.loop-record.self.records.now c.in-Some.before.now c.in-Some.record.now c.in-Some.ensures.cases.0 c.in-Roll.is
    ∙ c.loop-record.invariant
