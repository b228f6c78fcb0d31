use Rattle.std.proofs.Common.{◌≡◌, reverse, length}
use Rattle.std.specs.List.{filter}
use Rattle.branch_model.specs.Journals as journal
use Rattle.journal_points.specs.Limits.{is_within}
use Rattle.journal_points.proofs.saved.log_of.Given as goal

abbrev pub invariant-loop-record : goal.invariant-loop-record
invariant-loop-record l = filter (λ e. is_within l.least e.seq) (journal.log_of (reverse l.rest)) ≡ journal.log_of (reverse l.records)

abbrev pub decreases-loop-record : goal.decreases-loop-record
decreases-loop-record l = length l.rest
