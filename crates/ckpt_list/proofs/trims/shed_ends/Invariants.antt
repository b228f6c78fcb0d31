use Rattle.std.proofs.Common.{◌≡◌, ℕ}
use Rattle.std.specs.VecDeque.{deque_len}
use Rattle.std.specs.List.Sorted.{IsNonDecreasingBy}
use Rattle.ckpt_list.proofs.Sheds.{past}
use Rattle.ckpt_list.proofs.trims.shed_ends.Given as goal

abbrev pub invariant-loop-ends : goal.invariant-loop-ends
invariant-loop-ends l = record {
  same : past (λ (x : ℕ). x) l.initial.to l.ends.items ≡ past (λ (x : ℕ). x) l.initial.to l.initial.ends.items;
  sorted : IsNonDecreasingBy (λ (x : ℕ). x) l.ends.items;
}

abbrev pub decreases-loop-ends : goal.decreases-loop-ends
decreases-loop-ends l = deque_len l.ends
