use Rattle.std.proofs.Common.{◌≡◌, reverse, length}
use Rattle.journal_points.specs.Limits.{standing_within}
use Rattle.journal_points.proofs.standing.StandingIterator.next.Given as goal

abbrev pub invariant-loop-record : goal.invariant-loop-record
invariant-loop-record l = standing_within l.self.least (reverse l.self.records.now) ≡ standing_within l.fn.self.least (reverse l.fn.self.records.now)

abbrev pub decreases-loop-record : goal.decreases-loop-record
decreases-loop-record l = length l.self.records.now
