-- disks of which chosen calls fail
use Rattle.std.specs.Prelude.{◌≡◌, ℕ, ◌+◌, ◌-◌, ◌^◌, ◌<◌, min, max, Bool, true, false, List, [], Option, None}
use Rattle.std.specs.List.{Contains}
use Rattle.vb_disk.specs.Crashes.{Crashes, CountsNow}
use Rattle.vb_disk.specs.Disks.{Storage}
use Rattle.vb_disk.specs.Memory.{MemStorage, mem_storage, mem_crashes, mem_counts_now}
use Rattle.vb_disk.specs.declared.Put.{Put}
use Rattle.vb_disk.specs.declared.Put.TheVariants as put
use Rattle.vb_disk.specs.declared.fuse.Fuse.{Fuse}

-- A disk with chosen failures: the disk in memory, its calls so far, the numbers of those that fail, and how many did.
pub record ListedStorage : Type 0 where
  pub disk : MemStorage
  pub calls : ℕ
  pub fail : List ℕ
  pub failures : ℕ

abbrev pub listed_storage : ListedStorage → Storage
listed_storage d = record (mem_storage d.disk) { failures = d.failures }

abbrev pub listed_crashes : ListedStorage → Crashes
listed_crashes d = mem_crashes d.disk

pub listed_counts_now : (d : ListedStorage) → CountsNow (listed_crashes d)
listed_counts_now d = mem_counts_now d.disk

-- it tells no arm
abbrev pub unarmed : ListedStorage → Option Fuse
unarmed d = None

-- A count after one more: it stands still at 2^64 - 1, and it never falls.
abbrev pub raised : ℕ → ℕ
raised count = max count (min (count + 1) (2 ^ 64 - 1))

-- The next call is one of those that fail.
abbrev pub FailsNext : ListedStorage → Type 0
FailsNext d = Contains d.fail (raised d.calls)

-- a call was counted, and whether it failed
abbrev pub called : ListedStorage → Bool → ListedStorage
called d true = record d { calls = raised d.calls; failures = raised d.failures }
called d false = record d { calls = raised d.calls }

-- A call fails exactly where its number is listed. Then it changes nothing of the disk but what memory is ready for, and one more is counted; any other does to the disk what it does in memory.
abbrev pub AsListed : ListedStorage → ListedStorage → Put → Type 0
AsListed old new put.Done = ¬ FailsNext old × (new ≡ record (called old false) { disk = new.disk })
AsListed old new put.Failed = FailsNext old × (new ≡ record (called old true) { disk = new.disk }) × (new.disk.bytes ≡ old.disk.bytes) × (new.disk.past ≡ old.disk.past)

-- The number of a call is that of the calls before it, those that failed among them, and one; where none is listed, none fails.
pub record FailsAsListed : Type 0 where
  pub numbered : (d : ListedStorage) → d.calls < 2 ^ 64 - 1 → FailsNext d → Contains d.fail (d.calls + 1)
  pub listed : (d : ListedStorage) → d.calls < 2 ^ 64 - 1 → Contains d.fail (d.calls + 1) → FailsNext d
  pub none : (d : ListedStorage) → d.fail ≡ [] → ¬ FailsNext d
