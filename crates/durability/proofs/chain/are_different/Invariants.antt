use Rattle.std.proofs.Common.{◌≡◌, length}
use Rattle.durability.specs.Chains.{named, differ}
use Rattle.durability.proofs.chain.are_different.Given as goal

abbrev pub invariant-loop-first : goal.invariant-loop-first
invariant-loop-first l = differ (named l.rest) ≡ differ (named l.others)

abbrev pub decreases-loop-first : goal.decreases-loop-first
decreases-loop-first l = length l.rest
