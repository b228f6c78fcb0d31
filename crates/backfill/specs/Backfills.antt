-- what a stream gets of what a vBucket wrote down. Journals here list their last record first
use Rattle.std.specs.Prelude.{ℕ, Bool, true, if◌then◌else◌, List, [], ◌∷◌, Option, Some, None}
use Rattle.std.specs.List.{filter}
use Rattle.vb_types.specs.Histories.{is_visible}
use Rattle.vb_types.specs.declared.change.Change.{Change}
use Rattle.vb_types.specs.declared.journal.Record.{Record}
use Rattle.vb_types.specs.declared.stream.Snapshot.{Snapshot}
use Rattle.branch_model.specs.Histories.{last_seq}
use Rattle.journal_points.specs.Points.{above}
use Rattle.vb_calls.specs.Jobs.{Job, Ended, Request}
use Rattle.vb_calls.specs.Shelves.{Read, Reading, Book, Shut, Unread, Broken}
use Rattle.backfill.specs.declared.backfilled.Backfilled.{Backfilled}
use Rattle.backfill.specs.declared.backfilled.Backfilled.TheVariants as filled

-- what a stream sees of changes whose commits are written out: a sync one all, any other the sets and removals
abbrev pub seen_by : Bool → List Change → List Change
seen_by sync cs = if sync then cs else filter (λ c. is_visible c.act) cs

-- the snapshot from the disk with these items, from a place: up to the last one, and none where there is no item
abbrev pub disk_of : ℕ → List Change → Option Snapshot
disk_of start [] = None
disk_of start (x ∷ xs) = Some (record { start = start; end = last_seq x.seq xs; disk = true; items = x ∷ xs })

-- the snapshot of a stream at the place `start`, of what is saved up to `end`
abbrev pub disk_snapshot_of : List Record → ℕ → ℕ → Bool → Option Snapshot
disk_snapshot_of js start end sync = disk_of start (seen_by sync (above js start end))

-- what a journal has for a stream, by the snapshot
abbrev pub found : Option Snapshot → Backfilled
found None = filled.Nothing
found (Some snapshot) = filled.Snapshot snapshot

-- the same by what was read of the journal: one that can't be read is told as such, whatever the fault
unfoldable pub backfilled : ℕ → ℕ → Bool → Reading → Backfilled
backfilled start end sync (Book book) = found (disk_snapshot_of book start end sync)
backfilled start end sync Shut = filled.Disk
backfilled start end sync Unread = filled.Disk
backfilled start end sync (Broken place) = filled.Disk

-- the journal of v is read for a stream at the place `start`, up to `end`
abbrev pub backfill_job : ℕ → ℕ → ℕ → Bool → Job Backfilled
backfill_job v start end sync = Request v Read (λ reading. Ended (backfilled start end sync reading))
