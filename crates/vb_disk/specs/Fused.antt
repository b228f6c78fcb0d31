-- disks under an arm
use Rattle.std.specs.Prelude.{ℕ}
use Rattle.vb_disk.specs.Crashes.{Crashes, CountsNow}
use Rattle.vb_disk.specs.Disks.{Storage}
use Rattle.vb_disk.specs.Memory.{MemStorage, mem_storage, mem_crashes, mem_counts_now}
use Rattle.vb_disk.specs.declared.fuse.Fuse.{Fuse}

-- A disk under an arm: the disk in memory, the arm, and how often a call was hit.
pub record FuseStorage : Type 0 where
  pub disk : MemStorage
  pub fuse : Fuse
  pub failures : ℕ

abbrev pub fuse_storage : FuseStorage → Storage
fuse_storage f = record (mem_storage f.disk) { failures = f.failures }

abbrev pub fuse_crashes : FuseStorage → Crashes
fuse_crashes f = mem_crashes f.disk

pub fuse_counts_now : (f : FuseStorage) → CountsNow (fuse_crashes f)
fuse_counts_now f = mem_counts_now f.disk
