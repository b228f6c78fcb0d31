use Rattle.std.proofs.Common.{◌≡◌, max, length}
use Rattle.std.specs.List.{filter}
use Rattle.durability.specs.Pending.{greatest, may_ack, due}
use Rattle.durability.proofs.acknowledging.due.Given as goal

abbrev pub invariant-loop-first : goal.invariant-loop-first
invariant-loop-first l = max l.best (greatest (filter (may_ack l.pend l.complete l.saved) l.rest)) ≡ due l.pend l.complete l.saved

abbrev pub decreases-loop-first : goal.decreases-loop-first
decreases-loop-first l = length l.rest
