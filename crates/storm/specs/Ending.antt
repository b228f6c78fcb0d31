-- the end of a storm at one vBucket
use Rattle.std.specs.Prelude.{◌≡◌, ℕ, Bool, true, false, List, Some}
use Rattle.vb_types.specs.declared.journal.Record.{Record}
use Rattle.vb_calls.specs.declared.journals.Flushed.{Flushed}
use Rattle.vb_calls.specs.declared.journals.Flushed.TheVariants as flushed
use Rattle.vb_calls.specs.Plain.{Plain}
use Rattle.vb_calls.specs.Shelves.{Shelves, open_shelf}
use Rattle.vb_disk.specs.Memory.{MemStorage, mem_storage, mem_crashes}
use Rattle.vb_disk.specs.Outcomes.{mem_left}
use Rattle.vb_disk.specs.declared.fuse.Fuse.TheVariants.{Off}
use Rattle.disk_journals.specs.Devices.{Device, device}
use Rattle.disk_journals.specs.Seen.{Seen}
use Rattle.disk_journals.specs.Stands.{ShelvesStand}
use Rattle.vbucket.specs.Rows.{row_at}
use Rattle.vbucket.specs.Stands.{StandsFor}
use Rattle.node_threads.specs.Seats.{Row, number_of}
use Rattle.storm_model.specs.declared.lines.StormLine.{StormLine}
use Rattle.storm_model.specs.Sums.{line_of}
use Rattle.storm_seats.specs.Views.{StandsAt}

-- there is a seat of vBucket v, which has all parts and made all calls, and the vBucket is this one
abbrev pub Reads : ℕ → List Row → Plain → Type 0
Reads v rows vb = (x : Row) × (row_at number_of v rows ≡ Some x) × StandsAt StandsFor x.view vb

-- the vBucket is some one
abbrev pub IsRead : ℕ → List Row → Type 0
IsRead v rows = (vb : Plain) × Reads v rows vb

-- the same of a seat
abbrev pub IsAlone : Row → Type 0
IsAlone row = (vb : Plain) × StandsAt StandsFor row.view vb

-- the line is that of the vBucket of this seat
abbrev pub EndsWith : Row → StormLine → Type 0
EndsWith row line = (vb : Plain) → StandsAt StandsFor row.view vb → line ≡ line_of vb

-- a batch was taken, appended and told
abbrev pub is_done : Flushed → Bool
is_done (flushed.Done reply) = true
is_done other = false

-- disks in memory
abbrev pub mem_device : Device MemStorage
mem_device = device mem_storage mem_crashes (λ m. Some Off) mem_left

-- the journal of vBucket v is open, and no batch is on its way to it
abbrev pub IsQuiet : ℕ → List (Seen MemStorage) → Type 0
IsQuiet v kept = (shelves : Shelves) × ShelvesStand mem_device kept shelves × ((book : List Record) × (shelves v ≡ Some (open_shelf book)))
