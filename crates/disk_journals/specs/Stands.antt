-- which plain journals those that are kept stand for
use Rattle.std.specs.Prelude.{◌≡◌, ℕ, false, List, reverse, Option, Some, None, IfSome, IsSome}
use Rattle.vb_calls.specs.Shelves.{Shelf, Shelves, blank_shelf, left_book}
use Rattle.vb_disk.specs.declared.fuse.Fuse.{Fuse}
use Rattle.vb_disk.specs.declared.made.Outcome.{Outcome}
use Rattle.vb_journal.specs.Books.{JournalState}
use Rattle.vb_journal.specs.Surviving.{OpensTo}
use Rattle.vb_journal.specs.UnderArms.{IsSettledEach}
use Rattle.disk_journals.specs.Devices.{Device, fuse_over}
use Rattle.disk_journals.specs.Seen.{Seen, seen_at, flush_of}

-- What a crash leaves of a journal whose disk tells its arm. While it is open, no append was broken off, and each outcome leaves what a read gives. Whether it is open or not, what each leaves opens to the records that the plain one says, the first one first.
pub record LeavesAs {D : Type 0} (dev : Device D) (j : JournalState D) (shelf : Shelf) : Type 0 where
  pub late : shelf.is_closed ≡ false → shelf.late ≡ None
  pub settled : shelf.is_closed ≡ false → IsSettledEach (dev.storage j.disk).held (dev.left j.disk)
  pub left : (out : Outcome) → IfSome (dev.left j.disk out) (OpensTo (reverse (left_book out shelf)))

-- A journal stands for a plain one: both are closed or neither is, the batch on its way is the same, and so is the arm. While they are open, the disk tells the plain one's records, the first one first.
pub record ShelfStands {D : Type 0} (dev : Device D) (s : Seen D) (shelf : Shelf) : Type 0 where
  pub closed : s.journal.closed ≡ shelf.is_closed
  pub book : shelf.is_closed ≡ false → s.journal.book ≡ Some (reverse shelf.book)
  pub flush : flush_of s.flusher ≡ shelf.flush
  pub arm : shelf.fuse ≡ fuse_over (dev.armed s.journal.disk)
  pub leaves : IfSome (dev.armed s.journal.disk) (λ f. LeavesAs dev s.journal shelf)

-- a journal is there exactly where the plain one is, and stands for it
abbrev pub StandsThere : {D : Type 0} → Device D → Option (Seen D) → Option Shelf → Type 0
StandsThere dev None None = Unit {0}
StandsThere dev (Some s) (Some shelf) = ShelfStands dev s shelf
StandsThere dev None (Some shelf) = ⊥
StandsThere dev (Some s) None = ⊥

-- the journals stand for the plain ones: it is so at every number
abbrev pub ShelvesStand : {D : Type 0} → Device D → List (Seen D) → Shelves → Type 0
ShelvesStand dev slots shelves = (v : ℕ) → StandsThere dev (seen_at slots v) (shelves v)

-- a disk of which it is known what a blank journal on it stands for: it tells its bytes, and where it tells its arm, a crash of each outcome leaves them
pub record IsBlank {D : Type 0} (dev : Device D) (disk : D) : Type 0 where
  pub told : IsSome (dev.storage disk).held
  pub settled : IfSome (dev.armed disk) (λ f. IsSettledEach (dev.storage disk).held (dev.left disk))

-- a blank journal under this arm
abbrev pub blank_under : Fuse → Shelf
blank_under f = record blank_shelf { fuse = f }
