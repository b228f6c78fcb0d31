use Rattle.std.proofs.Common.{◌≡◌, length}
use Rattle.durability.specs.Chains.{named, has_not}
use Rattle.durability.proofs.chain.lacks.Given as goal

abbrev pub invariant-loop-first : goal.invariant-loop-first
invariant-loop-first l = has_not l.member (named l.rest) ≡ has_not l.member (named l.others)

abbrev pub decreases-loop-first : goal.decreases-loop-first
decreases-loop-first l = length l.rest
