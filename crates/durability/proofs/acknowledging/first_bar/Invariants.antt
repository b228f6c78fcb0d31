use Rattle.std.proofs.Common.{◌≡◌, ℕ, ◌&&◌, length}
use Rattle.durability.specs.Pending.{has_none, is_bar, is_under}
use Rattle.durability.proofs.acknowledging.first_bar.Given as goal

abbrev pub invariant-loop-first : goal.invariant-loop-first
invariant-loop-first l = (q : ℕ) → (is_under l.bar q && has_none (is_bar l.saved q) l.rest) ≡ has_none (is_bar l.saved q) l.pend

abbrev pub decreases-loop-first : goal.decreases-loop-first
decreases-loop-first l = length l.rest
