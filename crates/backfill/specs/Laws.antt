-- what a stream gets from the disk, in other words
use Rattle.std.specs.Prelude.{◌≡◌, ◌↔◌, ◌⊎◌, ℕ, ◌<◌, ◌≤◌, Bool, true, false, List, Option, Some, None}
use Rattle.vb_types.specs.Histories.{Rises, IsIn, Slot, is_visible}
use Rattle.vb_types.specs.declared.change.Act.{Act}
use Rattle.vb_types.specs.declared.change.Act.TheVariants as act
use Rattle.vb_types.specs.declared.change.Change.{Change}
use Rattle.vb_types.specs.declared.doc.Doc.{Doc}
use Rattle.vb_types.specs.declared.journal.Record.{Record}
use Rattle.vb_types.specs.declared.stream.Snapshot.{Snapshot}
use Rattle.branch_model.specs.Snapshots.{Covers, CoversPlain}
use Rattle.journal_points.specs.Points.{standing}
use Rattle.journal_points.specs.Laws.{IsLast}
use Rattle.vb_calls.specs.Jobs.{RanJob}
use Rattle.vb_calls.specs.Shelves.{Ask, Read, Got, Reading, Book, Shut, Unread, Broken}
use Rattle.vb_calls.specs.declared.calls.VbCall.{VbCall}
use Rattle.vb_calls.specs.declared.calls.VbReply.{VbReply}
use Rattle.vb_disk.specs.Counts.{Rose}
use Rattle.backfill.specs.declared.backfilled.Backfilled.{Backfilled}
use Rattle.backfill.specs.declared.backfilled.Backfilled.TheVariants as filled
use Rattle.backfill.specs.Backfills.{backfill_job, disk_snapshot_of}

-- a stream sees a change: it is a sync one, or the change is one of a document
abbrev pub Sees : Bool → Change → Type 0
Sees sync c = (sync ≡ true) ⊎ (is_visible c.act ≡ true)

-- an act with a commit written out, as the set or the removal of its document
abbrev pub IsWrittenOut : Act → Act → Type 0
IsWrittenOut (act.Set doc) a = a ≡ act.Set doc
IsWrittenOut (act.Remove cas rev) a = a ≡ act.Remove cas rev
IsWrittenOut (act.Prepare level doc deleted) a = a ≡ act.Prepare level doc deleted
IsWrittenOut (act.Commit prepared doc true) a = a ≡ act.Remove doc.cas doc.rev
IsWrittenOut (act.Commit prepared doc false) a = a ≡ act.Set doc
IsWrittenOut (act.Abort prepared) a = a ≡ act.Abort prepared

-- x is sent for c: the same, but for a commit, which is written out
pub record IsSentFor (c x : Change) : Type 0 where
  pub seq : x.seq ≡ c.seq
  pub key : x.key ≡ c.key
  pub act : IsWrittenOut c.act x.act

-- c is due to a stream at a place: of what stands up to `end` the last change of a slot, above the place, and the stream sees it
pub record IsDue (js : List Record) (start end : ℕ) (sync : Bool) (c : Change) : Type 0 where
  pub slot : Slot
  pub last : IsLast slot js end c
  pub above : start < c.seq
  pub seen : Sees sync c

-- s is the stream's disk snapshot: from the place up to its last item, and no further than `end`; each item is sent for a change that is due, and for each that is due one is there; it is a whole snapshot of what stands, and of what the stream sees nothing is left up to `end`
pub record IsDiskSnapshot (js : List Record) (start end : ℕ) (sync : Bool) (s : Snapshot) : Type 0 where
  pub starts : s.start ≡ start
  pub disk : s.disk ≡ true
  pub rises : Rises start s.end s.items
  pub ends : (x : Change) × IsIn x s.items × (x.seq ≡ s.end)
  pub within : s.end ≤ end
  pub each : (x : Change) → IsIn x s.items → (c : Change) × IsDue js start end sync c × IsSentFor c x
  pub all : (c : Change) → IsDue js start end sync c → (x : Change) × IsIn x s.items × IsSentFor c x
  pub no_commit : (x : Change) (number : ℕ) (doc : Doc) (deleted : Bool) → IsIn x s.items → x.act ≡ act.Commit number doc deleted → ⊥
  pub covers : sync ≡ true → Covers s.items (standing js) start s.end
  pub covers_plain : sync ≡ false → CoversPlain s.items (standing js) start s.end
  pub nothing_left : (c : Change) → IsIn c (standing js) → Sees sync c → s.end < c.seq → c.seq ≤ end → ⊥

-- there is none exactly where no change is due, which is where none that the stream sees stands above the place and up to `end`
pub record Gives (js : List Record) (start end : ℕ) (sync : Bool) : Type 0 where
  pub none : (disk_snapshot_of js start end sync ≡ None) ↔ ((c : Change) → IsDue js start end sync c → ⊥)
  pub nothing : (disk_snapshot_of js start end sync ≡ None) ↔ ((c : Change) → IsIn c (standing js) → Sees sync c → start < c.seq → c.seq ≤ end → ⊥)
  pub some : (s : Snapshot) → disk_snapshot_of js start end sync ≡ Some s → IsDiskSnapshot js start end sync s

-- where the seqnos of the changes that stand rise
abbrev pub GivesDue : Type 0
GivesDue = (js : List Record) (top start end : ℕ) (sync : Bool) → Rises 0 top (standing js) → Gives js start end sync

-- By the records that were read, whose seqnos rise: it is not that the journal can't be read; there is nothing exactly where none stands that the stream sees above its place and up to `end`; and a snapshot is the stream's.
pub record HasOfBook (book : List Record) (start end : ℕ) (sync : Bool) (came : Backfilled) : Type 0 where
  pub nothing : (came ≡ filled.Nothing) ↔ ((c : Change) → IsIn c (standing book) → Sees sync c → start < c.seq → c.seq ≤ end → ⊥)
  pub snapshot : (s : Snapshot) → came ≡ filled.Snapshot s → IsDiskSnapshot book start end sync s

module _ {W J : Type 0} (step : W → ℕ → VbCall → Option VbReply → W → Type 0) (asks : J → ℕ → (ask : Ask) → Got ask → J → Type 0) (failures : J → ℕ → ℕ) where
  -- A backfill of v: its journal was read, once, and nothing else was asked or called. It comes to that the journal can't be read exactly where an append to it failed before, its disk failed in this read, or it is damaged; a disk that failed counted it.
  pub record ReadsOnce (v start end : ℕ) (sync : Bool) (old : W) (kept : J) (came : Backfilled) (new : W) (left : J) : Type 0 where
    pub reading : Reading
    pub asked : asks kept v Read reading left
    pub untouched : new ≡ old
    pub disk : (came ≡ filled.Disk) ↔ ((reading ≡ Shut) ⊎ ((reading ≡ Unread) ⊎ ((place : ℕ) × (reading ≡ Broken place))))
    pub failed : reading ≡ Unread → Rose (failures kept v) (failures left v)
    pub book : (book : List Record) (top : ℕ) → reading ≡ Book book → Rises 0 top (standing book) → HasOfBook book start end sync came

  -- so is each that ran
  abbrev pub BackfillsReadOnce : Type 0
  BackfillsReadOnce =
      (v start end : ℕ) (sync : Bool) (old : W) (kept : J) (came : Backfilled) (new : W) (left : J)
      → RanJob step asks (backfill_job v start end sync) old kept came new left → ReadsOnce v start end sync old kept came new left
