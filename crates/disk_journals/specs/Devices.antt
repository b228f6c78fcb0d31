-- what is known of a kind of disk
use Rattle.std.specs.Prelude.{ℕ, List, Option, None, Some}
use Rattle.vb_disk.specs.Crashes.{Crashes}
use Rattle.vb_disk.specs.Disks.{Storage}
use Rattle.vb_disk.specs.Fused.{FuseStorage, fuse_storage, fuse_crashes}
use Rattle.vb_disk.specs.Outcomes.{mem_left}
use Rattle.vb_disk.specs.declared.fuse.Fuse.{Fuse}
use Rattle.vb_disk.specs.declared.fuse.Fuse.TheVariants.{Off}
use Rattle.vb_disk.specs.declared.made.Outcome.{Outcome}

-- of each disk of a kind: its bytes and its failures; what a crash may leave of it; the arm under which it is called, where it tells one; and what a crash of each outcome leaves then
pub record Device (D : Type 0) : Type 1 where
  pub storage : D → Storage
  pub crashes : D → Crashes
  pub armed : D → Option Fuse
  pub left : D → Outcome → Option (List ℕ)

abbrev pub device : {D : Type 0} → (D → Storage) → (D → Crashes) → (D → Option Fuse) → (D → Outcome → Option (List ℕ)) → Device D
device storage crashes armed left = record { storage = storage; crashes = crashes; armed = armed; left = left }

-- disks in memory under an arm
abbrev pub fuse_device : Device FuseStorage
fuse_device = device fuse_storage fuse_crashes (λ f. Some f.fuse) (λ f. mem_left f.disk)

-- the arm over a disk; none that is told is none that is on
abbrev pub fuse_over : Option Fuse → Fuse
fuse_over None = Off
fuse_over (Some f) = f
