use Rattle.std.proofs.Common.{◌≡◌, ◌+◌, ◌≤◌, ◌++◌, map}
use Rattle.std.specs.Prelude.{vec_len, vec_capacity}
use Rattle.std.specs.VecDeque.{deque_len}
use Rattle.disk_journals.specs.Opening.{seen_opened}
use Rattle.disk_journals.proofs.journals.DiskJournals.opened.Given as goal

abbrev pub invariant-loop-number : goal.invariant-loop-number
invariant-loop-number g l = record {
  slots : l.slots.items ++ map seen_opened l.opened.items ≡ map seen_opened l.initial.opened.items;
  room : vec_len l.slots + deque_len l.opened ≤ vec_capacity l.slots;
  all : vec_len l.slots + deque_len l.opened ≡ deque_len l.initial.opened;
}

abbrev pub decreases-loop-number : goal.decreases-loop-number
decreases-loop-number g l = deque_len l.opened
