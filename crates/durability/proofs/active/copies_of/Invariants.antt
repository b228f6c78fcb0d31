use Rattle.std.proofs.Common.{◌≡◌, ◌++◌}
use Rattle.std.specs.VecDeque.Iter.{deque_iter_rest}
use Rattle.durability.proofs.active.copies_of.Given as goal

abbrev pub invariant-loop-prepare : goal.invariant-loop-prepare
invariant-loop-prepare l = l.copies.items ++ deque_iter_rest l.prepare-iterator ≡ l.waiting.items
