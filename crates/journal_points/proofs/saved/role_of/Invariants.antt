use Rattle.std.proofs.Common.{◌≡◌, reverse, length}
use Rattle.branch_model.specs.Journals as journal
use Rattle.journal_points.proofs.saved.role_of.Given as goal

abbrev pub invariant-loop-record : goal.invariant-loop-record
invariant-loop-record l = journal.role_of (reverse l.rest) ≡ journal.role_of (reverse l.records)

abbrev pub decreases-loop-record : goal.decreases-loop-record
decreases-loop-record l = length l.rest
