use Rattle.std.proofs.Common.{◌≡◌, ◌+◌, ◌≤◌, length}
use Rattle.std.specs.List.{AllByRecursion, fold}
use Rattle.std.specs.VecDeque.{deque_capacity, deque_len}
use Rattle.vb_calls.specs.declared.span.TheConstants.{MAX_WEIGHT}
use Rattle.checkpoint.specs.Checkpoints.{items_weight}
use Rattle.ckpt_list.specs.Windows.{CanSeal, count_in, sealed_behind}
use Rattle.ckpt_list.proofs.windows.seal_all.Given as goal

abbrev pub invariant-loop-window : goal.invariant-loop-window
invariant-loop-window l = record {
  going : fold sealed_behind (record { spans = l.sealed.items; items = l.items.items; ends = l.wholes.items }) l.full.items
      ≡ fold sealed_behind (record { spans = l.initial.sealed.items; items = l.initial.items.items; ends = l.initial.wholes.items }) l.initial.full.items;
  can : CanSeal l.wholes.items l.full.items;
  light : AllByRecursion (λ w. items_weight w.items ≤ MAX_WEIGHT) l.full.items → AllByRecursion (λ w. items_weight w.items ≤ MAX_WEIGHT) l.initial.full.items;
  sealed_room : length l.sealed.items + deque_len l.full ≤ deque_capacity l.sealed;
  items_room : length l.items.items + count_in l.full.items ≤ deque_capacity l.items;
  wholes_room : length l.wholes.items + deque_len l.full ≤ deque_capacity l.wholes;
}

abbrev pub decreases-loop-window : goal.decreases-loop-window
decreases-loop-window l = deque_len l.full
