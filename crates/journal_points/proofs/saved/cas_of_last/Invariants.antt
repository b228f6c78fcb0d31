use Rattle.std.proofs.Common.{◌≡◌, reverse, length}
use Rattle.branch_model.specs.Journals as journal
use Rattle.journal_points.proofs.saved.cas_of_last.Given as goal

abbrev pub invariant-loop-record : goal.invariant-loop-record
invariant-loop-record l = journal.cas_of_last (reverse l.rest) ≡ journal.cas_of_last (reverse l.records)

abbrev pub decreases-loop-record : goal.decreases-loop-record
decreases-loop-record l = length l.rest
