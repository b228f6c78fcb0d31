-- what is known of a request to journals on disks
use Rattle.std.specs.Prelude.{◌≡◌, ◌≢◌, ◌⊎◌, ℕ, List, Option, Some, None, Result, Ok, Err}
use Rattle.vb_disk.specs.Counts.{Rose}
use Rattle.vb_calls.specs.Faults.{IsFailure}
use Rattle.vb_calls.specs.Shelves.{Ask, Append, Read, Look, Keep, Got, Fate, Stood, WasClosed, DiskFailed, Shelf, Shelves, after_fate, shelf_step, with_shelf_at, shelves_step}
use Rattle.vb_calls.specs.declared.journals.Wrote.{Wrote}
use Rattle.vb_calls.specs.declared.journals.Wrote.TheVariants as wrote
use Rattle.vb_journal.specs.declared.fault.AppendFault.{AppendFault}
use Rattle.vb_journal.specs.declared.fault.AppendFault.TheVariants as fault
use Rattle.vb_journal.specs.Books.{failures_of}
use Rattle.disk_journals.specs.Anyhow.{AnswersAnyhow, AnsweredThere}
use Rattle.disk_journals.specs.Devices.{Device}
use Rattle.disk_journals.specs.Seen.{Seen, seen_at, flush_of}
use Rattle.disk_journals.specs.Stands.{ShelfStands, ShelvesStand}

-- what an append came to
abbrev pub fate_by : {T : Type 0} → Result T AppendFault → Fate
fate_by (Ok done) = Stood
fate_by (Err fault.Closed) = WasClosed
fate_by (Err fault.DiskFailed) = DiskFailed
fate_by (Err (fault.Damaged place)) = DiskFailed

-- the same of what was said of it
abbrev pub fate_of_wrote : Wrote → Fate
fate_of_wrote wrote.Stood = Stood
fate_of_wrote wrote.NotAsked = WasClosed
fate_of_wrote wrote.Closed = WasClosed
fate_of_wrote wrote.DiskFailed = DiskFailed

-- a journal's disk failed that tells no arm: its count rose
pub record Fails {D : Type 0} (dev : Device D) (before now : Seen D) : Type 0 where
  pub untold : dev.armed before.journal.disk ≡ None
  pub rose : Rose (failures_of dev.storage before.journal) (failures_of dev.storage now.journal)

-- the same of the journal at a number
abbrev pub FailsThere : {D : Type 0} → Device D → Option (Seen D) → Option (Seen D) → Type 0
FailsThere dev (Some before) (Some now) = Fails dev before now
FailsThere dev None now = ⊥
FailsThere dev (Some before) None = ⊥

-- a journal after its disk failed: an append that fails closes it, a read leaves it
abbrev pub failed_shelf : Shelf → Ask → Shelf
failed_shelf shelf (Append what) = after_fate shelf what DiskFailed
failed_shelf shelf Read = shelf
failed_shelf shelf Look = shelf
failed_shelf shelf (Keep flush) = shelf

-- What was asked of one journal, by the plain ones: for each that it stands for, the answer is the plain one, and it stands for the one after it; or its disk failed, which no disk does that tells its arm.
abbrev pub AnswersPlainly : {D : Type 0} → Device D → Seen D → (ask : Ask) → Got ask → Seen D → Type 0
AnswersPlainly dev old ask got new =
    (shelf : Shelf) → ShelfStands dev old shelf
    → ((got ≡ (shelf_step shelf ask).1) × ShelfStands dev new (shelf_step shelf ask).0)
    ⊎ (Fails dev old new × IsFailure ask got × ShelfStands dev new (failed_shelf shelf ask))

-- the same, and what is known of it whatever its disk tells
pub record SlotAnswers {D : Type 0} (dev : Device D) (old : Seen D) (ask : Ask) (got : Got ask) (new : Seen D) : Type 0 where
  pub plainly : AnswersPlainly dev old ask got new
  pub anyhow : AnswersAnyhow dev old ask got new

-- Nothing was asked of it, as memory was short: what is known of it is what is known where the batch on its way was looked at.
abbrev pub SlotUnasked : {D : Type 0} → Device D → Seen D → Seen D → Type 0
SlotUnasked dev old new = SlotAnswers dev old Look (flush_of old.flusher) new

-- the plain journals after the disk of the one at v failed
abbrev pub failed_at : Shelves → ℕ → Ask → Option Shelf → Shelves
failed_at shelves v ask None = shelves
failed_at shelves v ask (Some shelf) = with_shelf_at shelves v (failed_shelf shelf ask)

-- What is known of a request by the plain journals: for all that these stand for, the answer is the plain one, and they stand for those after it; or the disk of the one that was asked tells no arm and failed in this call, the answer says so, and an append has closed it.
abbrev pub AskedPlainly : {D : Type 0} → Device D → List (Seen D) → ℕ → (ask : Ask) → Got ask → List (Seen D) → Type 0
AskedPlainly dev old v ask got new =
    (shelves : Shelves) → ShelvesStand dev old shelves
    → ((got ≡ (shelves_step shelves v ask).1) × ShelvesStand dev new (shelves_step shelves v ask).0)
    ⊎ (FailsThere dev (seen_at old v) (seen_at new v) × IsFailure ask got × ShelvesStand dev new (failed_at shelves v ask (shelves v)))

-- the same, and what is known whatever any disk tells: of the one that was asked, and that all others stay
pub record DiskAnswers {D : Type 0} (dev : Device D) (old : List (Seen D)) (v : ℕ) (ask : Ask) (got : Got ask) (new : List (Seen D)) : Type 0 where
  pub plainly : AskedPlainly dev old v ask got new
  pub anyhow : AnsweredThere dev (seen_at old v) ask got (seen_at new v)
  pub others : (w : ℕ) → w ≢ v → seen_at new w ≡ seen_at old w

-- what is known of a request
unfoldable pub disk_asks : {D : Type 0} → Device D → List (Seen D) → ℕ → (ask : Ask) → Got ask → List (Seen D) → Type 0
disk_asks dev old v ask got new = DiskAnswers dev old v ask got new
