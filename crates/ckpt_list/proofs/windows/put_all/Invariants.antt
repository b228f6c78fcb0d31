use Rattle.std.specs.VecDeque.{deque_len}
use Rattle.ckpt_list.proofs.Queues.{Puts}
use Rattle.ckpt_list.proofs.windows.put_all.Given as goal

abbrev pub invariant-loop-change : goal.invariant-loop-change
invariant-loop-change l = Puts l.last l.initial.newest l.initial.rest.items (l.full.items, l.newest) l.rest.items

abbrev pub decreases-loop-change : goal.decreases-loop-change
decreases-loop-change l = deque_len l.rest
