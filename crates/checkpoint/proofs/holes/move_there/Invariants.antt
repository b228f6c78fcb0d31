use Rattle.std.proofs.Common.{◌≡◌, ◌+◌, ◌≤◌, ◌++◌, length}
use Rattle.std.specs.VecDeque.{deque_capacity}
use Rattle.std.specs.Vec.Iter.{into_iter_items}
use Rattle.checkpoint.specs.Runs.{changes_there}
use Rattle.checkpoint.proofs.holes.move_there.Given as goal

abbrev pub invariant-loop-change : goal.invariant-loop-change
invariant-loop-change l = record {
  moved : l.into.items ++ changes_there (into_iter_items l.change-iterator) ≡ l.initial.into.items ++ changes_there (into_iter_items l.initial.change-iterator);
  room : length l.into.items + length (changes_there (into_iter_items l.change-iterator)) ≤ deque_capacity l.into;
  kept : deque_capacity l.into ≡ deque_capacity l.initial.into;
}
