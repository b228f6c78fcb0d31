use Rattle.std.proofs.Common.{◌≡◌, ◌+◌, ◌≤◌, ◌++◌, map}
use Rattle.std.specs.VecDeque.{deque_len, deque_capacity}
use Rattle.disk_journals.specs.Opening.{disk_of}
use Rattle.disk_journals.proofs.opening.close_journals.Given as goal

abbrev pub invariant-loop-number : goal.invariant-loop-number
invariant-loop-number g l = record {
  disks : map disk_of l.opened.items ++ l.disks.items ≡ map disk_of l.initial.opened.items ++ l.initial.disks.items;
  capacity : deque_capacity l.disks ≡ deque_capacity l.initial.disks;
  room : deque_len l.opened + deque_len l.disks ≤ deque_capacity l.disks;
}

abbrev pub decreases-loop-number : goal.decreases-loop-number
decreases-loop-number g l = deque_len l.opened
