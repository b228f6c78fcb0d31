-- the arm over the disk of one journal, and over disks that are to be opened
use Rattle.std.specs.Prelude.{◌≡◌, ℕ, zero, suc, Bool, true, false, if◌then◌else◌, List, [], ◌∷◌, Option, Some, None, option_map}
use Rattle.vb_calls.specs.Shelves.{Shelf, Shelves, with_shelf_at}
use Rattle.vb_disk.specs.Arms.{hits, burnt}
use Rattle.vb_disk.specs.Fused.{FuseStorage}
use Rattle.vb_disk.specs.declared.fuse.Fuse.{Fuse}
use Rattle.vb_disk.specs.declared.fuse.Fuse.TheVariants.{Off}
use Rattle.disk_journals.specs.Seen.{Seen}
use Rattle.disk_journals.specs.declared.opening.VbDisk.{VbDisk}

-- a plain journal under this arm
abbrev pub under : Fuse → Shelf → Shelf
under fuse shelf = record shelf { fuse = fuse }

-- the same of what stands at v
abbrev pub armed_at : Shelves → ℕ → Fuse → Option Shelf → Shelves
armed_at shelves v fuse None = shelves
armed_at shelves v fuse (Some shelf) = with_shelf_at shelves v (under fuse shelf)

-- the plain journals with this arm over the one at v, where there is one
abbrev pub arm_over : Shelves → ℕ → Fuse → Shelves
arm_over shelves v fuse = armed_at shelves v fuse (shelves v)

-- what is left of the arm over the one at v
abbrev pub fuse_at : Shelves → ℕ → Option Fuse
fuse_at shelves v = option_map (λ shelf. shelf.fuse) (shelves v)

-- a journal that is kept, with this arm over its disk
abbrev pub seen_under : Fuse → Seen FuseStorage → Seen FuseStorage
seen_under fuse s = record s { journal = record s.journal { disk = record s.journal.disk { fuse = fuse } } }

-- An opening is one device call. The arm over its disk is the node's where that hits this call, and none otherwise.
abbrev pub for_one_call : Fuse → Fuse
for_one_call f = if hits f then f else Off

-- an arm was laid over disks that are to be opened in their order, and this is left of it behind all
abbrev pub ArmsLaid : Fuse → List (VbDisk FuseStorage) → Fuse → Type 0
ArmsLaid f [] left = left ≡ f
ArmsLaid f (on ∷ disks) left = (on.disk.fuse ≡ for_one_call f) × ArmsLaid (burnt f) disks left

-- so many openings, one after the other, all pass under this arm
abbrev pub opens_all : Fuse → ℕ → Bool
opens_all f zero = true
opens_all f (suc m) = if hits f then false else opens_all (burnt f) m
