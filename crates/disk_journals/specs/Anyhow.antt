-- what is known of a request to journals on disks, whatever their disks tell of their bytes
use Rattle.std.specs.Prelude.{◌≡◌, ◌↔◌, ℕ, ◌≤◌, true, false, List, [], ◌∷◌, ◌++◌, reverse, Option, Some, None, IfSome}
use Rattle.std.specs.Option.{option_map}
use Rattle.vb_disk.specs.Counts.{Rose}
use Rattle.vb_journal.specs.Books.{failures_of}
use Rattle.vb_types.specs.declared.journal.Record.{Record}
use Rattle.vb_calls.specs.Shelves.{Ask, Append, Read, Look, Keep, Got, Flush, Fate, Stood, WasClosed, DiskFailed, Reading, Book, Shut, Unread, Broken, no_answer}
use Rattle.disk_journals.specs.Devices.{Device}
use Rattle.disk_journals.specs.Seen.{Seen, seen_at, flush_of}

-- how often calls of a journal's disk failed; never where there is no journal
abbrev pub failures_in : {D : Type 0} → Device D → Option (Seen D) → ℕ
failures_in dev None = 0
failures_in dev (Some s) = failures_of dev.storage s.journal

-- the same of the journal of a number
abbrev pub failures_at : {D : Type 0} → Device D → List (Seen D) → ℕ → ℕ
failures_at dev slots v = failures_in dev (seen_at slots v)

-- a journal has the records that it had, is closed or open as it was, and the batch on its way stays
pub record Rests {D : Type 0} (old new : Seen D) : Type 0 where
  pub book : new.journal.book ≡ old.journal.book
  pub closed : new.journal.closed ≡ old.journal.closed
  pub batch : new.flusher ≡ old.flusher

-- An append: the journal was closed exactly where that is answered, and is open from then on exactly where the record stands, behind all others; where the disk failed its count rose. The batch on its way stays.
pub record Appends {D : Type 0} (dev : Device D) (old : Seen D) (what : Record) (fate : Fate) (new : Seen D) : Type 0 where
  pub was_closed : (fate ≡ WasClosed) ↔ (old.journal.closed ≡ true)
  pub is_open : (fate ≡ Stood) ↔ (new.journal.closed ≡ false)
  pub failed : fate ≡ DiskFailed → Rose (failures_of dev.storage old.journal) (failures_of dev.storage new.journal)
  pub book : fate ≡ Stood → new.journal.book ≡ option_map (λ records. records ++ what ∷ []) old.journal.book
  pub batch : new.flusher ≡ old.flusher

-- A read: the journal was closed exactly where that is answered; the records are those that its disk tells, where it tells them, and they are damaged only where it tells none; where the disk failed its count rose. Nothing else changed.
pub record Reads {D : Type 0} (dev : Device D) (old : Seen D) (reading : Reading) (new : Seen D) : Type 0 where
  pub was_closed : (reading ≡ Shut) ↔ (old.journal.closed ≡ true)
  pub told : (book : List Record) → reading ≡ Book book → IfSome old.journal.book (λ records. book ≡ reverse records)
  pub damaged : (place : ℕ) → reading ≡ Broken place → old.journal.book ≡ None
  pub failed : reading ≡ Unread → Rose (failures_of dev.storage old.journal) (failures_of dev.storage new.journal)
  pub rests : Rests old new

-- a look at the batch on its way: it is the one that is answered, and nothing changed
pub record Looks {D : Type 0} (old : Seen D) (flush : Flush) (new : Seen D) : Type 0 where
  pub answer : flush ≡ flush_of old.flusher
  pub rests : Rests old new

-- this batch is the one on its way from then on, and the journal is as it was
pub record Keeps {D : Type 0} (old : Seen D) (flush : Flush) (new : Seen D) : Type 0 where
  pub kept : flush_of new.flusher ≡ flush
  pub journal : new.journal ≡ old.journal

-- by what was asked
abbrev pub AnswersSo : {D : Type 0} → Device D → Seen D → (ask : Ask) → Got ask → Seen D → Type 0
AnswersSo dev old (Append what) fate new = Appends dev old what fate new
AnswersSo dev old Read reading new = Reads dev old reading new
AnswersSo dev old Look flush new = Looks old flush new
AnswersSo dev old (Keep flush) kept new = Keeps old flush new

-- what is known of one journal: its count of failures did not fall, and it was answered so
pub record AnswersAnyhow {D : Type 0} (dev : Device D) (old : Seen D) (ask : Ask) (got : Got ask) (new : Seen D) : Type 0 where
  pub later : failures_of dev.storage old.journal ≤ failures_of dev.storage new.journal
  pub so : AnswersSo dev old ask got new

-- the same of the journal at a number. Where there is none the answer is that of none, and none comes to be there
abbrev pub AnsweredThere : {D : Type 0} → Device D → Option (Seen D) → (ask : Ask) → Got ask → Option (Seen D) → Type 0
AnsweredThere dev (Some old) ask got (Some new) = AnswersAnyhow dev old ask got new
AnsweredThere dev None ask got None = got ≡ no_answer ask
AnsweredThere dev None ask got (Some new) = ⊥
AnsweredThere dev (Some old) ask got None = ⊥
