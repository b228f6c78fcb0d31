use Rattle.std.proofs.Common.{◌≡◌}
use Rattle.std.specs.VecDeque.Iter.{deque_iter_rest}
use Rattle.vbucket.specs.Settling.{given_up_plan}
use Rattle.vbucket.proofs.vbucket.VBucket.give_up.Given as goal

abbrev pub invariant-loop-prepare : goal.invariant-loop-prepare
invariant-loop-prepare l =
    (given_up_plan l.clock (deque_iter_rest l.prepare-iterator) (l.plan, l.left.waiting) ≡ given_up_plan l.clock l.self.rest.waiting (l.initial.plan, l.initial.left.waiting))
    × (l.left ≡ record l.initial.left { waiting = l.left.waiting; spare = l.left.spare })
