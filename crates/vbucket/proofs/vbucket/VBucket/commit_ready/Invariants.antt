use Rattle.std.proofs.Common.{◌≡◌}
use Rattle.std.specs.VecDeque.Iter.{deque_iter_rest}
use Rattle.durability.specs.Chains.{committed_now}
use Rattle.durability.specs.Outstanding.{acked}
use Rattle.vbucket.specs.Plans.{keys_of}
use Rattle.vbucket.specs.Settling.{with_commits}
use Rattle.vbucket.proofs.vbucket.VBucket.commit_ready.Given as goal

abbrev pub invariant-loop-prepare : goal.invariant-loop-prepare
invariant-loop-prepare l =
    (with_commits l.uuid l.self.rest.base (deque_iter_rest l.prepare-iterator) l.plan
    ≡ with_commits l.uuid l.self.rest.base (committed_now (acked l.outstanding.acks) l.outstanding.others l.self.rest.saved l.outstanding.waiting) l.initial.plan)
    × (l.keys ≡ keys_of l.plan.changes)
