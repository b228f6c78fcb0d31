-- journals that are opened on the disks that a crash left
use Rattle.std.proofs.Common.{◌≡◌, ℕ, Bool, true, false, List, [], ◌∷◌, ◌++◌, length, map, reverse, refl, ap, sym, ◌∙◌, subst, Some, Err, inl, inr}
use Rattle.std.specs.Prelude.{◌==◌, if◌then◌else◌, find, option_map, IfSome}
use Rattle.std.proofs.lemmas.List.{reverse-reverse}
use Rattle.vb_disk.specs.Arms.{hits, burnt}
use Rattle.vb_disk.specs.Crashes.{LeavesNoMore}
use Rattle.vb_disk.specs.Fused.{FuseStorage, fuse_crashes, fuse_storage}
use Rattle.vb_disk.specs.declared.fuse.Fuse.{Fuse}
use Rattle.vb_disk.specs.declared.fuse.Fuse.TheVariants.{Off}
use Rattle.vb_journal.specs.Books.{IsSame}
use Rattle.vb_journal.specs.Reading.{reading, records_in, records_of}
use Rattle.vb_journal.specs.Surviving.{OpensTo}
use Rattle.vb_journal.specs.declared.scan.Scan.TheVariants as scan
use Rattle.vb_types.specs.declared.journal.Record.{Record}
use Rattle.disk_journals.specs.Arms.{ArmsLaid, for_one_call, opens_all}
use Rattle.disk_journals.specs.Books.{AreBooks, BearsBook, Book, opened_shelf, opened_shelves}
use Rattle.disk_journals.specs.Devices.{fuse_device}
use Rattle.disk_journals.specs.Opening.{AreOpened, FaultsAreHits, IsOpened, OpenedStand, OpeningCame, OpensBooks, OpensNot, book_of, disk_of, fault_of, seen_opened}
use Rattle.disk_journals.specs.Seen.{seen_at}
use Rattle.disk_journals.specs.Stands.{ShelfStands, StandsThere}
use Rattle.disk_journals.specs.declared.opening.OpenCause.{OpenCause}
use Rattle.disk_journals.specs.declared.opening.OpenCause.TheVariants as cause
use Rattle.disk_journals.specs.declared.opening.OpenJournal.{OpenJournal}
use Rattle.disk_journals.specs.declared.opening.VbDisk.{VbDisk}

-- the same bytes, told by two disks
same_bytes : (a b : FuseStorage) → (fuse_storage b).held ≡ (fuse_storage a).held → b.disk.bytes ≡ a.disk.bytes
same_bytes a b e = by b.disk.bytes a.disk.bytes e
  where
    by : (xs ys : List ℕ) → Some xs ≡ Some ys → xs ≡ ys
    by xs ys e = cc

records_read : (bytes : List ℕ) (records : List Record) → OpensTo records bytes → records_in bytes ≡ records
unfolding records_in
records_read bytes records opens = ap records_of opens.1

-- ---- one opening under the arm that was laid

not_hit : (f : Fuse) → hits (for_one_call f) ≡ false → hits f ≡ false
not_hit f e = by (hits f) refl e
  where
    by : (b : Bool) → hits f ≡ b → hits (if b then f else Off) ≡ false → hits f ≡ false
    by true e h = h
    by false e h = e

was_hit : (f : Fuse) → hits (for_one_call f) ≡ true → hits f ≡ true
was_hit f e = by (hits f) refl e
  where
    by : (b : Bool) → hits f ≡ b → hits (if b then f else Off) ≡ true → hits f ≡ true
    by true e h = e
    by false e h = absurd (cc h)

off_then : (f : Fuse) → hits f ≡ false → burnt (for_one_call f) ≡ Off
off_then f e = ap (λ b. burnt (if b then f else Off)) e

module _ (f : Fuse) (from : VbDisk FuseStorage) (o : OpenJournal FuseStorage) (book : Book) (bears : BearsBook from book) (laid : from.disk.fuse ≡ for_one_call f) (is : IsOpened fuse_device from o) where
  pub passes : hits f ≡ false
  passes = not_hit f (subst (λ g. hits g ≡ false) laid is.journal.arm.1.0)

  off_now : o.journal.disk.fuse ≡ Off
  off_now = some_is o.journal.disk.fuse (burnt from.disk.fuse) is.journal.arm.0 ∙ ap burnt laid ∙ off_then f passes
    where
      some_is : (a b : Fuse) → Some a ≡ Some b → a ≡ b
      some_is a b e = cc

  bytes_are : o.journal.disk.disk.bytes ≡ from.disk.disk.bytes
  bytes_are = same_bytes from.disk o.journal.disk is.journal.opened.same.stays.held

  records_are : o.records ≡ reverse book.1
  records_are = is.journal.opened.read ∙ records_read from.disk.disk.bytes (reverse book.1) bears.opens

  still_opens : OpensTo (reverse book.1) o.journal.disk.disk.bytes
  still_opens = subst (λ bytes. OpensTo (reverse book.1) bytes) (sym bytes_are) bears.opens

  number_is : o.number ≡ book.0
  number_is = is.number ∙ bears.number

  pub book_is : book_of o ≡ book
  book_is = λ i. (number_is i, (ap reverse records_are ∙ reverse-reverse book.1) i)

  pub bears_still : BearsBook (disk_of o) book
  bears_still = record { number = number_is; opens = still_opens; settled = is.journal.crash.1 }

  pub stands_one : ShelfStands fuse_device (seen_opened o) (opened_shelf book)
  stands_one = record {
    closed = is.journal.opened.is_open;
    book = λ open_now. is.journal.opened.book ∙ ap Some records_are;
    flush = refl;
    arm = sym off_now;
    leaves = record {
      late = λ open_now. refl;
      settled = λ open_now. is.journal.arm.1.1;
      left = λ out. subst (λ left. IfSome left (OpensTo (reverse book.1))) (sym (is.journal.arm.1.1 out)) still_opens;
    };
  }

-- ---- all of them

stands_by : (o : OpenJournal FuseStorage) (opened : List (OpenJournal FuseStorage)) (book : Book) (books : List Book) (v : ℕ) → o.number ≡ book.0 → ShelfStands fuse_device (seen_opened o) (opened_shelf book)
    → StandsThere fuse_device (seen_at (map seen_opened opened) v) (opened_shelves books v) → StandsThere fuse_device (seen_at (map seen_opened (o ∷ opened)) v) (opened_shelves (book ∷ books) v)
stands_by o opened book books v number one more =
    subst (λ n. StandsThere fuse_device (seen_at (map seen_opened (o ∷ opened)) v) (option_map opened_shelf (if n == v then Some book else find (λ (b : Book). b.0 == v) books))) number (by (o.number == v))
  where
    by : (b : Bool) → StandsThere fuse_device (if b then Some (seen_opened o) else seen_at (map seen_opened opened) v) (option_map opened_shelf (if b then Some book else find (λ (b : Book). b.0 == v) books))
    by true = one
    by false = more

pass_more : (f : Fuse) (n : ℕ) → hits f ≡ false → opens_all (burnt f) n ≡ true → (if hits f then false else opens_all (burnt f) n) ≡ true
pass_more f n e pass = ap (λ b. if b then false else opens_all (burnt f) n) e ∙ pass

pub opened_stand : OpenedStand
opened_stand f [] [] left [] are laid opens = record { pass = refl; books_are = refl; stand = λ v. tt; closed = tt }
opened_stand f (from ∷ disks) (book ∷ books) left (o ∷ opened) are laid opens =
    let more : OpensBooks (burnt f) disks books left opened = opened_stand (burnt f) disks books left opened are.1 laid.1 opens.1 in
    let here = book_is f from o book are.0 laid.0 opens.0 in record {
      pass = pass_more f (length books) (passes f from o book are.0 laid.0 opens.0) more.pass;
      books_are = λ i. here i ∷ more.books_are i;
      stand = λ v. stands_by o opened book books v (ap (λ (b : Book). b.0) here) (stands_one f from o book are.0 laid.0 opens.0) (more.stand v);
      closed = (bears_still f from o book are.0 laid.0 opens.0, more.closed);
    }
opened_stand f [] [] left (o ∷ opened) are laid opens = absurd opens
opened_stand f [] (book ∷ books) left opened are laid opens = absurd are
opened_stand f (from ∷ disks) [] left opened are laid opens = absurd are
opened_stand f (from ∷ disks) (book ∷ books) left [] are laid opens = absurd opens

-- ---- one that was not opened

module _ (first : VbDisk FuseStorage) (disk : FuseStorage) (book : Book) (bears : BearsBook first book) (same : IsSame (fuse_storage first.disk) (fuse_storage disk)) (crash : LeavesNoMore (fuse_crashes first.disk) (fuse_crashes disk)) where
  bytes_stay : disk.disk.bytes ≡ first.disk.disk.bytes
  bytes_stay = same_bytes first.disk disk same.stays.held

  pub bears_back : BearsBook (record { number = first.number; disk = disk }) book
  bears_back = record {
    number = bears.number;
    opens = subst (λ bytes. OpensTo (reverse book.1) bytes) (sym bytes_stay) bears.opens;
    settled = λ image left. bears.settled image (crash.among image left) ∙ sym bytes_stay;
  }

hit_now : (f g : Fuse) (n : ℕ) → g ≡ for_one_call f → hits g ≡ true → (if hits f then false else opens_all (burnt f) n) ≡ false
hit_now f g n laid hit = ap (λ b. if b then false else opens_all (burnt f) n) (was_hit f (subst (λ h. hits h ≡ true) laid hit))

hit_later : (f : Fuse) (n : ℕ) → opens_all (burnt f) n ≡ false → (if hits f then false else opens_all (burnt f) n) ≡ false
hit_later f n hit = by (hits f)
  where
    by : (b : Bool) → (if b then false else opens_all (burnt f) n) ≡ false
    by true = refl
    by false = hit

undamaged : (bytes : List ℕ) (records : List Record) (place : ℕ) → OpensTo records bytes → reading bytes ≡ scan.Damaged place → ⊥
undamaged bytes records place opens damaged = by (sym opens.1 ∙ damaged)
  where
    by : scan.Whole records opens.0 ≡ scan.Damaged place → ⊥
    by e = cc

module _ (first : VbDisk FuseStorage) (behind : List (VbDisk FuseStorage)) (disk : FuseStorage) (left : Fuse) where
  abbrev back_of : List (OpenJournal FuseStorage) → List (VbDisk FuseStorage)
  back_of opened = map disk_of opened ++ record { number = first.number; disk = disk } ∷ behind

  first_hit : (why : OpenCause) (f : Fuse) (book : Book) (books : List Book) → OpeningCame fuse_device first.disk (Err (fault_of why disk)) → BearsBook first book → AreBooks behind books → first.disk.fuse ≡ for_one_call f → OpensNot f (book ∷ books) why (back_of [])
  first_hit cause.NoMemory f book books came bears are laid = (bears_back first disk book bears came.opened came.crash, are)
  first_hit cause.DiskFailed f book books came bears are laid =
      (hit_now f first.disk.fuse (length books) laid came.arm.1.0, (bears_back first disk book bears came.opened.0 came.crash, are))
  first_hit (cause.Damaged place) f book books came bears are laid = undamaged first.disk.disk.bytes (reverse book.1) place bears.opens came.opened.1

  one_more : (why : OpenCause) (f : Fuse) (book : Book) (books : List Book) (on : VbDisk FuseStorage) (back : List (VbDisk FuseStorage)) → BearsBook on book → OpensNot (burnt f) books why back → OpensNot f (book ∷ books) why (on ∷ back)
  one_more cause.NoMemory f book books on back bears rest = (bears, rest)
  one_more cause.DiskFailed f book books on back bears rest = (hit_later f (length books) rest.0, (bears, rest.1))
  one_more (cause.Damaged place) f book books on back bears rest = rest

  faults_by : (why : OpenCause) → OpeningCame fuse_device first.disk (Err (fault_of why disk)) → (front : List (VbDisk FuseStorage)) (opened : List (OpenJournal FuseStorage)) (books : List Book) (f : Fuse)
      → AreOpened fuse_device front opened → AreBooks (front ++ first ∷ behind) books → ArmsLaid f (front ++ first ∷ behind) left → OpensNot f books why (back_of opened)
  faults_by why came [] [] (book ∷ books) f opens are laid = first_hit why f book books came are.0 are.1 laid.0
  faults_by why came (d ∷ front) (o ∷ opened) (book ∷ books) f opens are laid =
      one_more why f book books (disk_of o) (back_of opened) (bears_still f d o book are.0 laid.0 opens.0) (faults_by why came front opened books (burnt f) opens.1 are.1 laid.1)
  faults_by why came [] [] [] f opens are laid = absurd are
  faults_by why came [] (o ∷ opened) books f opens are laid = absurd opens
  faults_by why came (d ∷ front) [] books f opens are laid = absurd opens
  faults_by why came (d ∷ front) (o ∷ opened) [] f opens are laid = absurd are

pub faults_hit : FaultsAreHits
faults_hit f disks books left why back are laid (inl short) =
    subst (λ w. OpensNot f books w back) (sym short.0) (subst (λ ds. AreBooks ds books) (sym short.1) are)
faults_hit f disks books left why back are laid (inr fault) =
    subst (λ ds. OpensNot f books why ds) (sym fault.are)
    (faults_by fault.first fault.behind fault.left left why fault.fault fault.front fault.opened books f fault.in_front (subst (λ ds. AreBooks ds books) fault.were are) (subst (λ ds. ArmsLaid f ds left) fault.were laid))
