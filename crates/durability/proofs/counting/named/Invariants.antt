use Rattle.std.proofs.Common.{◌≡◌, ◌≤◌, ◌+◌, length}
use Rattle.durability.specs.Chains.{named}
use Rattle.durability.proofs.counting.named.Given as goal

abbrev pub invariant-loop-first : goal.invariant-loop-first
invariant-loop-first l = (l.count + length (named l.rest) ≡ length (named l.others)) × (l.count + length l.rest ≤ length l.others)

abbrev pub decreases-loop-first : goal.decreases-loop-first
decreases-loop-first l = length l.rest
