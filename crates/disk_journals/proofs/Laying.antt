-- an arm that is laid over disks, one after the other
use Rattle.std.proofs.Common.{◌≡◌, ℕ, zero, suc, List, [], ◌∷◌, ◌++◌, get_or, set, ap, sym, ◌∙◌, subst}
use Rattle.vb_disk.specs.Arms.{burnt}
use Rattle.vb_disk.specs.Fused.{FuseStorage}
use Rattle.vb_disk.specs.declared.fuse.Fuse.{Fuse}
use Rattle.disk_journals.specs.Arms.{ArmsLaid, for_one_call}
use Rattle.disk_journals.specs.Books.{AreBooks, BearsBook, Book}
use Rattle.disk_journals.specs.declared.opening.VbDisk.{VbDisk}

-- the same disk under another arm
abbrev pub on_under : Fuse → VbDisk FuseStorage → VbDisk FuseStorage
on_under f on = record on { disk = record on.disk { fuse = f } }

-- over one disk more
pub laid_more : (f : Fuse) (front : List (VbDisk FuseStorage)) (on : VbDisk FuseStorage) (left : Fuse) → ArmsLaid f front left → on.disk.fuse ≡ for_one_call left → ArmsLaid f (front ++ on ∷ []) (burnt left)
laid_more f [] on left laid arm = (arm ∙ ap for_one_call laid, ap burnt laid)
laid_more f (d ∷ front) on left laid arm = (laid.0, laid_more (burnt f) front on left laid.1 arm)

-- what a disk bears does not depend on its arm
pub bears_under : (f : Fuse) (on : VbDisk FuseStorage) (book : Book) → BearsBook on book → BearsBook (on_under f on) book
bears_under f on book bears = record { number = bears.number; opens = bears.opens; settled = bears.settled }

pub books_under : (disks : List (VbDisk FuseStorage)) (at : ℕ) (f : Fuse) (on : VbDisk FuseStorage) (books : List Book) → on ≡ get_or disks at on → AreBooks disks books → AreBooks (set disks at (on_under f on)) books
books_under [] zero f on [] is are = are
books_under [] (suc at) f on [] is are = are
books_under [] at f on (book ∷ books) is are = absurd are
books_under (d ∷ disks) zero f on (book ∷ books) is are = (subst (λ o. BearsBook (on_under f o) book) (sym is) (bears_under f d book are.0), are.1)
books_under (d ∷ disks) (suc at) f on (book ∷ books) is are = (are.0, books_under disks at f on books is are.1)
books_under (d ∷ disks) at f on [] is are = absurd are
