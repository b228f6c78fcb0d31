use Rattle.std.proofs.Common.{◌≡◌, ◌≤◌, ◌+◌, length}
use Rattle.durability.specs.Chains.{holders}
use Rattle.durability.specs.Outstanding.{acked}
use Rattle.durability.proofs.counting.holders.Given as goal

abbrev pub invariant-loop-first : goal.invariant-loop-first
invariant-loop-first l = (l.count + length (holders (acked l.acks) l.rest l.seq) ≡ length (holders (acked l.acks) l.others l.seq)) × (l.count + length l.rest ≤ length l.others)

abbrev pub decreases-loop-first : goal.decreases-loop-first
decreases-loop-first l = length l.rest
