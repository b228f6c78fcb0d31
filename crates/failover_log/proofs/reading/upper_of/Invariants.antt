use Rattle.std.proofs.Common.{◌≡◌, length}
use Rattle.branch_model.specs.Logs.{upper}
use Rattle.failover_log.proofs.reading.upper_of.Given as goal

abbrev pub invariant-loop-entry : goal.invariant-loop-entry
invariant-loop-entry l = upper l.top l.rest l.uuid ≡ upper l.high l.entries l.uuid

abbrev pub decreases-loop-entry : goal.decreases-loop-entry
decreases-loop-entry l = length l.rest
