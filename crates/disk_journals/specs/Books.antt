-- what the records of journals make of them when they are opened, and what a crash leaves of them
use Rattle.std.specs.Prelude.{◌≡◌, ℕ, zero, suc, ◌==◌, List, [], ◌∷◌, ◌++◌, reverse, find, flat_map, Option, option_map, option_to_list}
use Rattle.vb_calls.specs.Shelves.{Shelf, Shelves, open_shelf}
use Rattle.vb_disk.specs.Crashes.{Only}
use Rattle.vb_disk.specs.Fused.{FuseStorage, fuse_crashes}
use Rattle.vb_journal.specs.Surviving.{OpensTo}
use Rattle.vb_types.specs.declared.journal.Record.{Record}
use Rattle.disk_journals.specs.declared.crash.TheConstants.{NUMBERS}
use Rattle.disk_journals.specs.declared.opening.VbDisk.{VbDisk}

-- the number of a vBucket, and the records of its journal, the last first
abbrev pub Book : Type 0
Book = ℕ × List Record

-- a journal that was opened with these records: it is open, no batch is on its way, and no arm is over it
abbrev pub opened_shelf : Book → Shelf
opened_shelf book = open_shelf book.1

-- the journals that were opened with these records. One without a record is as it was made
abbrev pub opened_shelves : List Book → Shelves
opened_shelves books = λ v. option_map opened_shelf (find (λ b. b.0 == v) books)

-- the numbers below this one, in their order
abbrev pub below : ℕ → List ℕ
below zero = []
below (suc n) = below n ++ n ∷ []

-- the records of the journal at a number, with the number, where there is one
abbrev pub book_at : (ℕ → Option (List Record)) → ℕ → List Book
book_at journals v = option_to_list (option_map (λ js. (v, js)) (journals v))

-- those at the numbers below this one, by rising number
abbrev pub listed_below : ℕ → (ℕ → Option (List Record)) → List Book
listed_below n journals = flat_map (book_at journals) (below n)

-- those at all numbers that a vBucket may have
unfoldable pub listed : (ℕ → Option (List Record)) → List Book
listed journals = listed_below NUMBERS journals

-- A disk bears these records for good: its bytes read as them, the first one first, and a crash leaves no other bytes.
pub record BearsBook (on : VbDisk FuseStorage) (book : Book) : Type 0 where
  pub number : on.number ≡ book.0
  pub opens : OpensTo (reverse book.1) on.disk.disk.bytes
  pub settled : Only on.disk.disk.bytes (fuse_crashes on.disk).leaves

-- each disk bears its records, in their order. What arms are over them is not said
abbrev pub AreBooks : List (VbDisk FuseStorage) → List Book → Type 0
AreBooks [] [] = Unit {0}
AreBooks (on ∷ disks) (book ∷ books) = BearsBook on book × AreBooks disks books
AreBooks [] (book ∷ books) = ⊥
AreBooks (on ∷ disks) [] = ⊥
