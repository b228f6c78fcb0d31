use Rattle.std.proofs.Common.{◌+◌, ◌≤◌}
use Rattle.std.specs.VecDeque.{deque_len, deque_capacity}
use Rattle.disk_journals.specs.Devices.{device}
use Rattle.disk_journals.proofs.Opens.{Opens}
use Rattle.disk_journals.proofs.opening.open_journals.Given as goal

abbrev pub invariant-loop-number : goal.invariant-loop-number
invariant-loop-number g l = record {
  opens : Opens (device g.D.Disk.storage g.D.Disk.crashes g.D.Disk.armed g.D.Disk.left_by) l.initial.disks.items l.disks.items l.opened.items;
  room : deque_len l.opened + deque_len l.disks ≤ deque_capacity l.opened;
  back : deque_len l.opened + deque_len l.disks ≤ deque_capacity l.disks;
}

abbrev pub decreases-loop-number : goal.decreases-loop-number
decreases-loop-number g l = deque_len l.disks
