-- the journals of a node, and what is asked of one
use Rattle.std.specs.Prelude.{ℕ, ◌==◌, Bool, true, false, if◌then◌else◌, List, [], ◌∷◌, reverse, Option, Some, None, Result, Ok, Err}
use Rattle.branch_model.specs.Journals.{found}
use Rattle.vb_disk.specs.declared.fuse.Fuse.{Fuse}
use Rattle.vb_disk.specs.declared.fuse.Fuse.TheVariants.{Off}
use Rattle.vb_disk.specs.declared.made.Outcome.{Outcome}
use Rattle.vb_disk.specs.declared.made.Outcome.TheVariants.{New}
use Rattle.vb_journal.specs.UnderArms.{all_pass, burnt_noting, leaves_open, stands}
use Rattle.vb_journal.specs.declared.fault.AppendFault.{AppendFault}
use Rattle.vb_journal.specs.declared.fault.AppendFault.TheVariants as fault
use Rattle.vb_types.specs.declared.journal.Batch.{Batch}
use Rattle.vb_types.specs.declared.journal.Record.{Record}

-- a batch on its way to the disk: none is; it was taken; it was appended, up to a seqno
pub data Flush : Type 0 where
  Idle : Flush
  Out : (batch : Batch) → Flush
  Written : (seq : ℕ) → Flush

-- what becomes of an append: the record stands; an earlier append failed; the disk failed
pub data Fate : Type 0 where
  Stood : Fate
  WasClosed : Fate
  DiskFailed : Fate

-- what is read of a journal: its records, the last first; or why they can't be read, damaged ones with the place of the first one
pub data Reading : Type 0 where
  Book : (book : List Record) → Reading
  Shut : Reading
  Unread : Reading
  Broken : (place : ℕ) → Reading

-- the same of records in the order in which they were appended, or of the fault
abbrev pub reading_by : Result (List Record) AppendFault → Reading
reading_by (Ok records) = Book (reverse records)
reading_by (Err fault.Closed) = Shut
reading_by (Err fault.DiskFailed) = Unread
reading_by (Err (fault.Damaged place)) = Broken place

-- what is asked of a journal: an append; its records; the batch on its way; that this is the batch on its way
pub data Ask : Type 0 where
  Append : (what : Record) → Ask
  Read : Ask
  Look : Ask
  Keep : (flush : Flush) → Ask

-- what it answers
abbrev pub Got : Ask → Type 0
Got (Append what) = Fate
Got Read = Reading
Got Look = Flush
Got (Keep flush) = Unit {0}

-- a journal: its records, the last first; whether an append failed; the batch on its way; the record whose append was broken off, where a crash may find it; and the arm under which its disk is called
pub record Shelf : Type 0 where
  pub book : List Record
  pub is_closed : Bool
  pub flush : Flush
  pub late : Option Record
  pub fuse : Fuse

-- a journal with these records, of which no append failed, and to which no batch is on its way. No arm is over it
abbrev pub open_shelf : List Record → Shelf
open_shelf book = record { book = book; is_closed = false; flush = Idle; late = None; fuse = Off }

-- a journal in which nothing was written
abbrev pub blank_shelf : Shelf
blank_shelf = open_shelf []

-- the journal at each number, where there is one
abbrev pub Shelves : Type 0
Shelves = ℕ → Option Shelf

-- the journals with this one at v
abbrev pub with_shelf_at : Shelves → ℕ → Shelf → Shelves
with_shelf_at shelves v shelf = λ w. if w == v then Some shelf else shelves w

-- what an append comes to, whose disk fails as its arm says and not otherwise
abbrev pub fate_of : Shelf → Fate
fate_of shelf = if shelf.is_closed then WasClosed else if all_pass shelf.fuse then Stood else DiskFailed

-- the record of an append that failed under this arm, where there is a crash that leaves it
abbrev pub late_of : Fuse → Record → Option Record
late_of fuse what = if stands fuse New then Some what else None

-- a journal after an append: its calls burn the arm, and one that fails closes it
abbrev pub after_fate : Shelf → Record → Fate → Shelf
after_fate shelf what Stood = record shelf { book = what ∷ shelf.book; fuse = burnt_noting shelf.fuse }
after_fate shelf what WasClosed = shelf
after_fate shelf what DiskFailed = record shelf { is_closed = true; late = late_of shelf.fuse what; fuse = burnt_noting shelf.fuse }

-- the records that a crash leaves of a journal: those that stand, and the one whose append was broken off, exactly where the crash leaves its gate open
abbrev pub left_book : Outcome → Shelf → List Record
left_book out shelf = found shelf.book shelf.late (leaves_open out)

-- what is read of a journal: no arm hits a read
abbrev pub reading_of : Shelf → Reading
reading_of shelf = if shelf.is_closed then Shut else Book shelf.book

-- a journal whose disk fails as its arm says, and its answer
abbrev pub shelf_step : Shelf → (ask : Ask) → Shelf × Got ask
shelf_step shelf (Append r) = (after_fate shelf r (fate_of shelf), fate_of shelf)
shelf_step shelf Read = (shelf, reading_of shelf)
shelf_step shelf Look = (shelf, shelf.flush)
shelf_step shelf (Keep flush) = (record shelf { flush = flush }, tt)

-- where there is no journal, nothing is there to be read or to be on its way, and no record stands
abbrev pub no_answer : (ask : Ask) → Got ask
no_answer (Append r) = WasClosed
no_answer Read = Shut
no_answer Look = Idle
no_answer (Keep flush) = tt

-- the journals after the answer of the one at v
abbrev pub stepped_shelf : {T : Type 0} → Shelves → ℕ → Shelf × T → Shelves × T
stepped_shelf shelves v answered = (with_shelf_at shelves v answered.0, answered.1)

-- what is asked of the journal at v, by what stands there
abbrev pub ask_at : Shelves → ℕ → (ask : Ask) → Option Shelf → Shelves × Got ask
ask_at shelves v ask None = (shelves, no_answer ask)
ask_at shelves v ask (Some shelf) = stepped_shelf shelves v (shelf_step shelf ask)

-- what is asked of the journal at v
abbrev pub shelves_step : Shelves → ℕ → (ask : Ask) → Shelves × Got ask
shelves_step shelves v ask = ask_at shelves v ask (shelves v)
