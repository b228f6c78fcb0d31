use Rattle.std.proofs.Common.{◌+◌, ◌≤◌}
use Rattle.std.specs.Prelude.{vec_len}
use Rattle.std.specs.VecDeque.{deque_len, deque_capacity}
use Rattle.disk_journals.proofs.Opens.{Ends}
use Rattle.disk_journals.proofs.journals.DiskJournals.into_disks.Given as goal

abbrev pub invariant-loop-slot : goal.invariant-loop-slot
invariant-loop-slot g l = record {
  ends : Ends g.D.Disk.storage l.fn.self l.slots.items l.disks.items;
  room : vec_len l.slots + deque_len l.disks ≤ deque_capacity l.disks;
}

abbrev pub decreases-loop-slot : goal.decreases-loop-slot
decreases-loop-slot g l = vec_len l.slots
