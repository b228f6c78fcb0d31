use Rattle.std.specs.Prelude.{◌≡◌, ◌==◌, ◌&&◌, not, is_some}
use Rattle.std.specs.List.{list_any}
use Rattle.std.specs.VecDeque.Iter.{deque_iter_rest}
use Rattle.durability.specs.Outstanding.{Rises}
use Rattle.durability.proofs.order.holds_left.Given as goal

abbrev pub invariant-loop-prepare : goal.invariant-loop-prepare
invariant-loop-prepare l = record {
  same : list_any (λ w. w.seq == l.seq && not (is_some w.deadline)) (deque_iter_rest l.prepare-iterator) ≡ list_any (λ w. w.seq == l.seq && not (is_some w.deadline)) l.waiting.items;
  rises : Rises l.seq (deque_iter_rest l.prepare-iterator);
}
