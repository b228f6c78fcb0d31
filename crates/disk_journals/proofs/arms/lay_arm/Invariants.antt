use Rattle.std.proofs.Common.{◌≡◌, ◌≤◌, List, take}
use Rattle.std.specs.VecDeque.{deque_len}
use Rattle.disk_journals.specs.Arms.{ArmsLaid}
use Rattle.disk_journals.specs.Books.{AreBooks, Book}
use Rattle.disk_journals.proofs.arms.lay_arm.Given as goal

abbrev pub invariant-loop-at : goal.invariant-loop-at
invariant-loop-at l = record {
  within : l.at ≤ l.at-end;
  len : deque_len l.disks ≡ l.at-end;
  laid : ArmsLaid l.fn.fuse (take l.at l.disks.items) l.left;
  books : (books : List Book) → AreBooks l.initial.disks.items books → AreBooks l.disks.items books;
}
