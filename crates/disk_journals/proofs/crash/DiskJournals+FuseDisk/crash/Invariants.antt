use Rattle.std.proofs.Common.{◌+◌, ◌≤◌}
use Rattle.std.specs.Prelude.{vec_len}
use Rattle.std.specs.VecDeque.{deque_len, deque_capacity}
use Rattle.disk_journals.specs.declared.crash.TheConstants.{NUMBERS}
use Rattle.disk_journals.proofs.Crashing.{Ahead, Crashed}
use Rattle.disk_journals.proofs.crash.DiskJournals+FuseDisk.crash.Given as goal

abbrev pub invariant-loop-number : goal.invariant-loop-number
invariant-loop-number l = record {
  within : l.number ≤ NUMBERS;
  ahead : Ahead l.fn.self l.slots.items l.number;
  crashed : Crashed l.fn.out l.fn.self l.number l.disks.items;
  room : vec_len l.slots + deque_len l.disks ≤ deque_capacity l.disks;
}
