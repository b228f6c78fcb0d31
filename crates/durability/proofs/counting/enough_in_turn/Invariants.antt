use Rattle.std.proofs.Common.{◌≡◌, ◌≤◌, ◌+◌, length}
use Rattle.std.specs.VecDeque.Iter.{deque_iter_rest}
use Rattle.durability.specs.Chains.{committed_now}
use Rattle.durability.specs.Outstanding.{acked}
use Rattle.durability.proofs.counting.enough_in_turn.Given as goal

abbrev pub invariant-loop-prepare : goal.invariant-loop-prepare
invariant-loop-prepare l =
    (l.count + length (committed_now (acked l.acks) l.others l.saved (deque_iter_rest l.prepare-iterator)) ≡ length (committed_now (acked l.acks) l.others l.saved l.waiting.items))
    × (l.count + length (deque_iter_rest l.prepare-iterator) ≤ length l.waiting.items)
