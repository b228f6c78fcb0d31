use Rattle.std.proofs.Common.{◌≡◌, ◌++◌}
use Rattle.std.specs.VecDeque.Iter.{deque_iter_rest}
use Rattle.vb_calls.specs.Settling.{given_up}
use Rattle.vbucket.proofs.vbucket.settling.ambiguous.Given as goal

abbrev pub invariant-loop-prepare : goal.invariant-loop-prepare
invariant-loop-prepare l = l.resolved ++ given_up (deque_iter_rest l.prepare-iterator) ≡ given_up l.waiting.items
