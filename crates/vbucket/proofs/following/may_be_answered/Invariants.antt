use Rattle.std.proofs.Common.{◌≡◌, length}
use Rattle.std.specs.Prelude.{nat_le, ◌&&◌}
use Rattle.branch_model.specs.Logs.{log_limit}
use Rattle.vb_calls.specs.Following.{is_answerable, log_lacks, log_differs, log_falls}
use Rattle.vbucket.proofs.following.may_be_answered.Given as goal

abbrev pub invariant-loop-entry : goal.invariant-loop-entry
invariant-loop-entry l =
    (nat_le 1 (length l.entries) && nat_le (length l.entries) log_limit && log_lacks l.rest 0 && log_differs l.rest && log_falls l.rest l.top) ≡ is_answerable l.entries

abbrev pub decreases-loop-entry : goal.decreases-loop-entry
decreases-loop-entry l = length l.rest
