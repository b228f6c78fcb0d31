-- what opening the journals of many disks comes to
use Rattle.std.specs.Prelude.{◌≡◌, ◌⊎◌, true, false, List, [], ◌∷◌, ◌++◌, length, map, reverse, IsSome, Ok, Err, Result}
use Rattle.flusher.specs.declared.flusher.Flusher.TheVariants as flusher
use Rattle.vb_disk.specs.Disks.{Storage}
use Rattle.vb_disk.specs.Fused.{FuseStorage}
use Rattle.vb_disk.specs.declared.fuse.Fuse.{Fuse}
use Rattle.vb_journal.specs.Books.{Bears, JournalState, Opened}
use Rattle.vb_journal.specs.Surviving.{OpenedSafely}
use Rattle.vb_journal.specs.UnderArms.{OpensUnder}
use Rattle.vb_journal.specs.declared.fault.OpenFault.{OpenFault}
use Rattle.vb_journal.specs.declared.fault.OpenFault.TheVariants as opening
use Rattle.vb_types.specs.declared.journal.Record.{Record}
use Rattle.disk_journals.specs.Arms.{ArmsLaid, opens_all}
use Rattle.disk_journals.specs.Books.{AreBooks, Book, opened_shelves}
use Rattle.disk_journals.specs.Devices.{Device, fuse_device}
use Rattle.disk_journals.specs.Seen.{Seen}
use Rattle.disk_journals.specs.Stands.{ShelvesStand}
use Rattle.disk_journals.specs.declared.opening.OpenCause.{OpenCause}
use Rattle.disk_journals.specs.declared.opening.OpenCause.TheVariants as cause
use Rattle.disk_journals.specs.declared.opening.OpenJournal.{OpenJournal}
use Rattle.disk_journals.specs.declared.opening.VbDisk.{VbDisk}

-- the fault of a journal, with this cause and this disk handed back
abbrev pub fault_of : {D : Type 0} → OpenCause → D → OpenFault D
fault_of cause.NoMemory disk = opening.NoMemory disk
fault_of cause.DiskFailed disk = opening.DiskFailed disk
fault_of (cause.Damaged place) disk = opening.Damaged place disk

-- what one opening answers: what was read; what a crash leaves; and how the arm went on
pub record OpeningCame {D : Type 0} (dev : Device D) (disk : D) (came : Result (JournalState D × List Record) (OpenFault D)) : Type 0 where
  pub opened : Opened dev.storage disk came
  pub crash : OpenedSafely dev.storage dev.crashes disk came
  pub arm : OpensUnder dev.storage dev.armed dev.left disk came

-- a journal was opened on this disk
pub record IsOpened {D : Type 0} (dev : Device D) (from : VbDisk D) (opened : OpenJournal D) : Type 0 where
  pub number : opened.number ≡ from.number
  pub journal : OpeningCame dev from.disk (Ok (opened.journal, opened.records))

-- a journal was opened on each of these disks, in their order
abbrev pub AreOpened : {D : Type 0} → Device D → List (VbDisk D) → List (OpenJournal D) → Type 0
AreOpened dev [] [] = Unit {0}
AreOpened dev (from ∷ disks) (opened ∷ journals) = IsOpened dev from opened × AreOpened dev disks journals
AreOpened dev [] (opened ∷ journals) = ⊥
AreOpened dev (from ∷ disks) [] = ⊥

-- the disk of a journal that was opened, with its number
abbrev pub disk_of : {D : Type 0} → OpenJournal D → VbDisk D
disk_of opened = record { number = opened.number; disk = opened.journal.disk }

-- The first journal that was not opened: those in front of it were, and their disks are handed back; it hands its own one back; and the disks behind it are as they were.
pub record FirstFault {D : Type 0} (dev : Device D) (disks : List (VbDisk D)) (why : OpenCause) (back : List (VbDisk D)) : Type 0 where
  pub front : List (VbDisk D)
  pub first : VbDisk D
  pub behind : List (VbDisk D)
  pub were : disks ≡ front ++ first ∷ behind
  pub opened : List (OpenJournal D)
  pub in_front : AreOpened dev front opened
  pub left : D
  pub fault : OpeningCame dev first.disk (Err (fault_of why left))
  pub are : back ≡ map disk_of opened ++ record { number = first.number; disk = left } ∷ behind

-- Disks are handed back for this cause: that of the first journal that was not opened, or want of memory before any was.
abbrev pub FaultedBy : {D : Type 0} → Device D → List (VbDisk D) → OpenCause → List (VbDisk D) → Type 0
FaultedBy dev disks why back = ((why ≡ cause.NoMemory) × (back ≡ disks)) ⊎ FirstFault dev disks why back

-- what is seen of a journal that was opened: no batch is on its way to it
abbrev pub seen_opened : {D : Type 0} → OpenJournal D → Seen D
seen_opened opened = record { number = opened.number; journal = opened.journal; flusher = flusher.Idle }

-- the records of a journal that was opened, the last first
abbrev pub book_of : {D : Type 0} → OpenJournal D → Book
book_of opened = (opened.number, reverse opened.records)

-- each of the disks tells its bytes
abbrev pub AllTell : {D : Type 0} → (D → Storage) → List (VbDisk D) → Type 0
AllTell storage [] = Unit {0}
AllTell storage (from ∷ disks) = IsSome (storage from.disk).held × AllTell storage disks

-- the disk of a journal that ended, with its number: it bears the records that the journal had
pub record IsEnded {D : Type 0} (storage : D → Storage) (s : Seen D) (left : VbDisk D) : Type 0 where
  pub number : left.number ≡ s.number
  pub disk : left.disk ≡ s.journal.disk
  pub book : Bears (storage left.disk).held s.journal.book

-- the disks of these journals, in their order
abbrev pub AreEnded : {D : Type 0} → (D → Storage) → List (Seen D) → List (VbDisk D) → Type 0
AreEnded storage [] [] = Unit {0}
AreEnded storage (s ∷ slots) (left ∷ disks) = IsEnded storage s left × AreEnded storage slots disks
AreEnded storage [] (left ∷ disks) = ⊥
AreEnded storage (s ∷ slots) [] = ⊥

-- Disks bear these records, and an arm was laid over them. Where all are opened, no opening was hit, their records are these, and the journals stand for the plain ones with them, under no arm any more.
pub record OpensBooks (f : Fuse) (disks : List (VbDisk FuseStorage)) (books : List Book) (left : Fuse) (opened : List (OpenJournal FuseStorage)) : Type 0 where
  pub pass : opens_all f (length books) ≡ true
  pub books_are : map book_of opened ≡ books
  pub stand : ShelvesStand fuse_device (map seen_opened opened) (opened_shelves books)
  -- and once they are closed, their disks bear the same records
  pub closed : AreBooks (map disk_of opened) books

abbrev pub OpenedStand : Type 0
OpenedStand =
    (f : Fuse) (disks : List (VbDisk FuseStorage)) (books : List Book) (left : Fuse) (opened : List (OpenJournal FuseStorage))
    → AreBooks disks books → ArmsLaid f disks left → AreOpened fuse_device disks opened → OpensBooks f disks books left opened

-- Where one is not opened, though there is memory, its opening was hit; and all disks that are handed back bear the same records.
abbrev pub OpensNot : Fuse → List Book → OpenCause → List (VbDisk FuseStorage) → Type 0
OpensNot f books cause.NoMemory back = AreBooks back books
OpensNot f books cause.DiskFailed back = (opens_all f (length books) ≡ false) × AreBooks back books
OpensNot f books (cause.Damaged place) back = ⊥

abbrev pub FaultsAreHits : Type 0
FaultsAreHits =
    (f : Fuse) (disks : List (VbDisk FuseStorage)) (books : List Book) (left : Fuse) (why : OpenCause) (back : List (VbDisk FuseStorage))
    → AreBooks disks books → ArmsLaid f disks left → FaultedBy fuse_device disks why back → OpensNot f books why back
