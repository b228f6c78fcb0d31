-- what a save of the batch on its way comes to
use Rattle.std.specs.Prelude.{◌≡◌, ℕ, List, Option, Some, None}
use Rattle.flusher.specs.declared.flusher.Flusher.{Flusher}
use Rattle.flusher.specs.declared.flusher.Flusher.TheVariants as flusher
use Rattle.vb_calls.specs.Jobs.{IsUnasked}
use Rattle.vb_calls.specs.Shelves.{Append, Keep, Flush, Idle, Out, Written, Fate, Stood, WasClosed, DiskFailed}
use Rattle.vb_calls.specs.declared.journals.Wrote.{Wrote}
use Rattle.vb_types.specs.declared.journal.Batch.{Batch}
use Rattle.vb_types.specs.declared.journal.Record.TheVariants.{Rows}
use Rattle.disk_journals.specs.Asking.{SlotAnswers, disk_asks, fate_of_wrote}
use Rattle.disk_journals.specs.Devices.{Device}
use Rattle.disk_journals.specs.Seen.{Seen, flush_of, flush_at}

-- a batch that was appended waits to be done; one that could not be is gone
abbrev pub left_by : Batch → Fate → Flush
left_by batch Stood = Written batch.position.at
left_by batch WasClosed = Idle
left_by batch DiskFailed = Idle

-- a batch was appended, or it could not be, and then it was no more to be
pub record SlotSaved {D : Type 0} (dev : Device D) (batch : Batch) (old new : Seen D) (fate : Fate) : Type 0 where
  pub appended : SlotAnswers dev old (Append (Rows batch)) fate (record new { flusher = old.flusher })
  pub left : flush_of new.flusher ≡ left_by batch fate

-- the batch that was taken was saved so
abbrev pub SavesSlot : {D : Type 0} → Device D → Flusher → Seen D → Seen D → Fate → Type 0
SavesSlot dev flusher.Idle old new fate = ⊥
SavesSlot dev (flusher.Out batch) old new fate = SlotSaved dev batch old new fate
SavesSlot dev (flusher.Written receipt) old new fate = ⊥

-- a batch was appended to the journal of a number, or it could not be, and then it was no more to be
pub record BatchSaved {D : Type 0} (dev : Device D) (batch : Batch) (old : List (Seen D)) (v : ℕ) (new : List (Seen D)) (fate : Fate) : Type 0 where
  pub between : List (Seen D)
  pub appended : disk_asks dev old v (Append (Rows batch)) fate between
  pub kept : disk_asks dev between v (Keep (left_by batch fate)) tt new
  pub left : flush_at new v ≡ left_by batch fate

-- the batch that was taken was saved so, if there is one
abbrev pub SavedAt : {D : Type 0} → Device D → Flush → List (Seen D) → ℕ → Option Wrote → List (Seen D) → Type 0
SavedAt dev (Out batch) old v None new = ⊥
SavedAt dev (Out batch) old v (Some wrote) new = BatchSaved dev batch old v new (fate_of_wrote wrote)
SavedAt dev Idle old v None new = new ≡ old
SavedAt dev Idle old v (Some wrote) new = ⊥
SavedAt dev (Written seq) old v None new = new ≡ old
SavedAt dev (Written seq) old v (Some wrote) new = ⊥

-- memory was short for a save of the batch that was taken, if there is one
abbrev pub UnsavedAt : {D : Type 0} → Device D → Flush → List (Seen D) → ℕ → List (Seen D) → Type 0
UnsavedAt dev (Out batch) old v new = IsUnasked (disk_asks dev) v old new
UnsavedAt dev Idle old v new = new ≡ old
UnsavedAt dev (Written seq) old v new = new ≡ old

-- a batch that was appended, by the seqno at which it ends
abbrev pub written_in : Flush → Option ℕ
written_in Idle = None
written_in (Out batch) = None
written_in (Written seq) = Some seq
