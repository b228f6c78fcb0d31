use Rattle.std.proofs.Common.{◌≡◌}
use Rattle.std.specs.VecDeque.Iter.{deque_iter_rest}
use Rattle.durability.specs.Outstanding.{front_seq, late}
use Rattle.durability.proofs.order.first_late.Given as goal

abbrev pub invariant-loop-prepare : goal.invariant-loop-prepare
invariant-loop-prepare l = front_seq (late l.clock (deque_iter_rest l.prepare-iterator)) ≡ front_seq (late l.clock l.waiting.items)
