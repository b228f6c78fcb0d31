use Rattle.std.proofs.Common.{◌≡◌, ℕ}
use Rattle.std.specs.VecDeque.{deque_len}
use Rattle.std.specs.List.Sorted.{IsNonDecreasingBy}
use Rattle.vb_types.specs.declared.change.Change.{Change}
use Rattle.ckpt_list.proofs.Sheds.{past}
use Rattle.ckpt_list.proofs.trims.shed_items.Given as goal

abbrev pub invariant-loop-items : goal.invariant-loop-items
invariant-loop-items l = record {
  same : past (λ (x : Change). x.seq) l.initial.to l.items.items ≡ past (λ (x : Change). x.seq) l.initial.to l.initial.items.items;
  sorted : IsNonDecreasingBy (λ (x : Change). x.seq) l.items.items;
}

abbrev pub decreases-loop-items : goal.decreases-loop-items
decreases-loop-items l = deque_len l.items
