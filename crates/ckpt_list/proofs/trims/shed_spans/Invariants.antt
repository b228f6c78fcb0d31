use Rattle.std.proofs.Common.{◌≡◌, ℕ}
use Rattle.std.specs.VecDeque.{deque_len}
use Rattle.std.specs.List.Sorted.{IsNonDecreasingBy}
use Rattle.vb_calls.specs.declared.span.Span.{Span}
use Rattle.vb_calls.specs.Trims.{end_of, ended_by}
use Rattle.ckpt_list.proofs.Sheds.{past}
use Rattle.ckpt_list.proofs.trims.shed_spans.Given as goal

abbrev pub invariant-loop-next : goal.invariant-loop-next
invariant-loop-next l = record {
  same : past (λ (w : Span). w.last) l.to l.spans.items ≡ past (λ (w : Span). w.last) l.to l.initial.spans.items;
  end : end_of l.end (ended_by l.to l.spans.items) ≡ end_of l.floor (ended_by l.to l.initial.spans.items);
  sorted : IsNonDecreasingBy (λ (w : Span). w.last) l.spans.items;
}

abbrev pub decreases-loop-next : goal.decreases-loop-next
decreases-loop-next l = deque_len l.spans
