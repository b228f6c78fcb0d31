-- streams that go on from a journal, worked by hand
use Rattle.std.specs.Prelude.{◌≡◌, ℕ, Bool, true, false, List, [], ◌∷◌, Option, Some, None}
use Rattle.vb_types.specs.declared.change.Act.TheVariants as act
use Rattle.vb_types.specs.declared.change.Change.{Change}
use Rattle.vb_types.specs.declared.change.Level.TheVariants as level
use Rattle.vb_types.specs.declared.journal.Record.TheVariants as noted
use Rattle.vb_types.specs.declared.stream.Place.TheVariants as place
use Rattle.vb_events.specs.declared.event.Event.{Event}
use Rattle.vb_events.specs.declared.event.Event.TheVariants as event
use Rattle.vb_events.specs.declared.event.ItemAct.TheVariants as item_act
use Rattle.vb_events.specs.declared.event.StreamName.TheVariants as name
use Rattle.vb_calls.specs.declared.calls.VbAnswer.TheVariants as answer
use Rattle.vb_calls.specs.declared.calls.VbCall.{VbCall}
use Rattle.vb_calls.specs.declared.calls.VbCall.TheVariants as call
use Rattle.vb_calls.specs.declared.calls.VbReply.{VbReply}
use Rattle.vb_calls.specs.Jobs.{Job, Ended, Call, Request}
use Rattle.vb_calls.specs.Shelves.{Read, Reading, Book, Shut, Unread, Broken, no_answer}
use Rattle.dcp_producer.specs.declared.halt.Halt.{Halt}
use Rattle.dcp_producer.specs.declared.halt.Halt.TheVariants as halt
use Rattle.dcp_producer.specs.Moves.{mark_line, says}
use Rattle.dcp_producer.specs.Producers.{PlainProducer, PlainStream}
use Rattle.dcp_producer.specs.Rows.{end_line, item_of, pull, removal, with_streams}

-- what a job comes to by these readings and these replies, one after the other; behind them there is no journal, and no vBucket
abbrev pub by_readings : {A : Type 0} → List Reading → List (Option VbReply) → Job A → A
by_readings readings replies (Ended a) = a
by_readings readings [] (Call v call next) = by_readings readings [] (next None)
by_readings readings (reply ∷ replies) (Call v call next) = by_readings readings replies (next reply)
by_readings [] replies (Request v ask next) = by_readings [] replies (next (no_answer ask))
by_readings (reading ∷ readings) replies (Request v Read next) = by_readings readings replies (next reading)
by_readings (reading ∷ readings) replies (Request v ask next) = by_readings (reading ∷ readings) replies (next (no_answer ask))

-- a call to a vBucket, or a reading of its journal
abbrev pub Asked : Type 0
Asked = ℕ × Option VbCall

-- what it asks in the same case, in its order
abbrev pub asks_by : {A : Type 0} → List Reading → List (Option VbReply) → Job A → List Asked
asks_by readings replies (Ended a) = []
asks_by readings [] (Call v call next) = (v, Some call) ∷ asks_by readings [] (next None)
asks_by readings (reply ∷ replies) (Call v call next) = (v, Some call) ∷ asks_by readings replies (next reply)
asks_by [] replies (Request v ask next) = (v, None) ∷ asks_by [] replies (next (no_answer ask))
asks_by (reading ∷ readings) replies (Request v Read next) = (v, None) ∷ asks_by readings replies (next reading)
asks_by (reading ∷ readings) replies (Request v ask next) = (v, None) ∷ asks_by (reading ∷ readings) replies (next (no_answer ask))

-- the vBucket 3 is asked for the stream 7's place and its next snapshot, and that stream is closed there; and its journal is read
abbrev pub placed : Asked
placed = (3, Some (call.Place 7))

abbrev pub took : Asked
took = (3, Some (call.Take 7))

abbrev pub closed : Asked
closed = (3, Some (call.CloseStream 7))

abbrev pub read : Asked
read = (3, None)

-- a stream of the vBucket 3 for which a backfill up to 2 was answered, asked for from 0, with this end, sync or not
abbrev pub unread : ℕ → Bool → PlainStream
unread until sync = record {
  id = 7;
  vb = 3;
  opaque = 9;
  until = until;
  first = record { start = 0; as_sets = false };
  sync = sync;
  place = 0;
  unread = Some 2;
  items = [];
  next = 0;
  marked = None;
  reached = 0;
  ended = false;
  gives = None;
}

-- the same where none was
abbrev pub all_read : ℕ → Bool → PlainStream
all_read until sync = record (unread until sync) { unread = None }

-- a journal with these changes in one batch
abbrev pub book_of : ℕ → List Change → Reading
book_of end items = Book (noted.Rows (record { position = record { ss = 0; se = end; at = end }; cas = 20; log = []; items = items }) ∷ [])

-- with a removal of one key at 1, and of another at 2; and with a prepare alone
abbrev pub other_removal : ℕ → Change
other_removal seq = record { seq = seq; key = 98 ∷ []; act = act.Remove 50 1 }

abbrev pub both_saved : Reading
both_saved = book_of 2 (removal 1 ∷ other_removal 2 ∷ [])

abbrev pub prepared : Reading
prepared = book_of 1 (record { seq = 1; key = 97 ∷ []; act = act.Prepare level.Majority (record { value = 120 ∷ []; cas = 50; rev = 1; flags = 0; expiry = 0; datatype = 0 }) false } ∷ [])

-- the line of a marker of a snapshot from the disk, and of the other key's removal
abbrev pub disk_line : ℕ → ℕ → Event
disk_line start end = event.Marked (name.Link 1) start end 2

abbrev pub other_item : ℕ → Event
other_item seq = event.Item (name.Link 1) seq item_act.Remove (98 ∷ [])

-- the vBucket goes on from memory with one more removal, from that place, and has none behind it; and it has none at once
abbrev pub one_more : ℕ → ℕ → List (Option VbReply)
one_more start seq = says (answer.Placed place.Memory) ∷ says (answer.Taken (record { start = start; end = seq; disk = false; items = removal seq ∷ [] })) ∷ says (answer.Placed place.Memory) ∷ says answer.Nothing ∷ []

abbrev pub no_more : List (Option VbReply)
no_more = says (answer.Placed place.Memory) ∷ says answer.Nothing ∷ []

-- by these readings and replies a pull of so many frames of these streams told these lines, counted so many frames, said why it put no more, and asked so
pub record Pulls (frames : ℕ) (end : PlainProducer) (readings : List Reading) (replies : List (Option VbReply)) (lines : List Event) (count : ℕ × Halt) (asked : List Asked) : Type 0 where
  pub told : (by_readings readings replies (pull frames end)).0.events ≡ lines
  pub why : ((by_readings readings replies (pull frames end)).0.count, (by_readings readings replies (pull frames end)).1) ≡ count
  pub made : asks_by readings replies (pull frames end) ≡ asked

-- the connection behind it
abbrev pub left_by : ℕ → PlainProducer → List Reading → List (Option VbReply) → PlainProducer
left_by frames end readings replies = (by_readings readings replies (pull frames end)).0.end

-- one stream alone; and an older one of the vBucket 4 with two removals to put behind it
abbrev pub one_of : PlainStream → PlainProducer
one_of stream = with_streams (stream ∷ []) 0

abbrev pub with_items : PlainStream
with_items = record (all_read 99 true) { id = 8; vb = 4; items = removal 5 ∷ removal 6 ∷ []; marked = Some 6; place = 6 }

abbrev pub two_of_them : PlainProducer
two_of_them = with_streams (unread 99 true ∷ with_items ∷ []) 0

-- A backfill that is not read comes before the vBucket is asked, with its marker of disk, whose START is the first one's; the next marker, from memory, has its own. One that Place answers is read at once, for a later marker from the END of the one before. One that gives nothing has no marker, and the same pull goes on, where the vBucket is asked, or memory; its next marker is the first. A requested end inside it comes behind all of its items. A journal that can't be read ends the pull, and the stream stays as it was and has had its turn: the other one's frame is put next. A stream that a change of role ended reads none.
pub record BackfillsInRows : Type 0 where
  pub first : Pulls 9 (one_of (unread 99 true)) (both_saved ∷ []) (one_more 2 3) (disk_line 0 2 ∷ item_of 1 ∷ other_item 2 ∷ mark_line 2 3 ∷ item_of 3 ∷ []) (5, halt.Idle) (read ∷ placed ∷ took ∷ placed ∷ took ∷ [])
  pub one : Pulls 1 (one_of (unread 99 true)) (both_saved ∷ []) [] (disk_line 0 2 ∷ []) (1, halt.All) (read ∷ [])
  pub later : Pulls 9 (one_of (record (all_read 99 true) { marked = Some 1; place = 1; reached = 1 })) (both_saved ∷ []) (says (answer.Placed (place.Backfill 2)) ∷ no_more) (disk_line 1 2 ∷ other_item 2 ∷ []) (2, halt.Idle) (placed ∷ read ∷ placed ∷ took ∷ [])
  pub at_once : Pulls 1 (one_of (all_read 99 true)) (both_saved ∷ []) (says (answer.Placed (place.Backfill 2)) ∷ []) (disk_line 0 2 ∷ []) (1, halt.All) (placed ∷ read ∷ [])
  pub nothing : Pulls 9 (one_of (unread 99 false)) (prepared ∷ []) (one_more 1 2) (mark_line 0 2 ∷ item_of 2 ∷ []) (2, halt.Idle) (read ∷ placed ∷ took ∷ placed ∷ took ∷ [])
  pub none_yet : Pulls 9 (one_of (unread 99 false)) (prepared ∷ []) no_more [] (0, halt.Idle) (read ∷ placed ∷ took ∷ [])
  pub then_memory : Pulls 9 (one_of (all_read 99 false)) (prepared ∷ []) (says (answer.Placed (place.Backfill 2)) ∷ says answer.Nothing ∷ []) [] (0, halt.Idle) (placed ∷ read ∷ took ∷ [])
  pub all_read_then : (left_by 9 (one_of (unread 99 false)) (prepared ∷ []) no_more).streams ≡ all_read 99 false ∷ []
  pub ends_inside : Pulls 9 (one_of (unread 1 true)) (both_saved ∷ []) [] (disk_line 0 2 ∷ item_of 1 ∷ other_item 2 ∷ end_line 0 ∷ []) (4, halt.Idle) (read ∷ closed ∷ [])
  pub shut : Pulls 9 (one_of (unread 99 true)) (Shut ∷ []) [] [] (0, halt.Disk) (read ∷ [])
  pub failed : Pulls 9 (one_of (unread 99 true)) (Unread ∷ []) [] [] (0, halt.Disk) (read ∷ [])
  pub damaged : (at : ℕ) → Pulls 9 (one_of (unread 99 true)) (Broken at ∷ []) [] [] (0, halt.Disk) (read ∷ [])
  pub shut_at_once : Pulls 9 (one_of (all_read 99 true)) (Shut ∷ []) (says (answer.Placed (place.Backfill 2)) ∷ []) [] (0, halt.Disk) (placed ∷ read ∷ [])
  pub stays_unread : (left_by 9 (one_of (unread 99 true)) (Shut ∷ []) []).streams ≡ unread 99 true ∷ []
  pub answered : (left_by 9 (one_of (all_read 99 true)) (Shut ∷ []) (says (answer.Placed (place.Backfill 2)) ∷ [])).streams ≡ unread 99 true ∷ []
  pub first_of_two : Pulls 9 two_of_them (Shut ∷ []) [] [] (0, halt.Disk) (read ∷ [])
  pub had_its_turn : Pulls 9 (left_by 9 two_of_them (Shut ∷ []) []) (Shut ∷ []) [] (item_of 5 ∷ []) (1, halt.Disk) (read ∷ [])
  pub next_one : Pulls 1 (left_by 9 two_of_them (Shut ∷ []) []) [] [] (item_of 5 ∷ []) (1, halt.All) []
  pub ended : Pulls 9 (one_of (record (unread 99 true) { ended = true })) (both_saved ∷ []) [] (end_line 2 ∷ []) (1, halt.Idle) []
