-- streams of a few items each, worked by hand
use Rattle.std.specs.Prelude.{◌≡◌, ℕ, Bool, true, false, List, [], ◌∷◌, map, None, Some}
use Rattle.vb_types.specs.declared.change.Act.TheVariants as act
use Rattle.vb_types.specs.declared.change.Change.{Change}
use Rattle.vb_events.specs.declared.event.Event.{Event}
use Rattle.vb_events.specs.declared.event.Event.TheVariants as event
use Rattle.vb_events.specs.declared.event.ItemAct.TheVariants as item_act
use Rattle.vb_events.specs.declared.event.StreamName.TheVariants as name
use Rattle.vb_calls.specs.declared.calls.VbCall.{VbCall}
use Rattle.vb_calls.specs.declared.calls.VbCall.TheVariants as call
use Rattle.vb_calls.specs.declared.calls.VbAnswer.{VbAnswer}
use Rattle.vb_calls.specs.declared.calls.VbAnswer.TheVariants as answer
use Rattle.vb_calls.specs.Jobs.{Job, Ended, Call, Request}
use Rattle.vb_calls.specs.Shelves.{no_answer}
use Rattle.vb_calls.specs.State.{quiet_reply}
use Rattle.vb_types.specs.declared.stream.Place.TheVariants as place
use Rattle.flow_control.specs.Windows.{new_window}
use Rattle.dcp_producer.specs.declared.desk.Desk.{Desk}
use Rattle.dcp_producer.specs.declared.desk.Handshake.TheVariants as handshake
use Rattle.dcp_producer.specs.declared.desk.Named.TheVariants as named
use Rattle.dcp_producer.specs.declared.halt.Halt.{Halt}
use Rattle.dcp_producer.specs.declared.halt.Halt.TheVariants as halt
use Rattle.dcp_producer.specs.Producers.{PlainProducer, PlainStream, Served, begun, with_opened, without_stream}
use Rattle.dcp_producer.specs.Pulling.{frames_put}

-- the connection of the link 1 at the node 2, with these streams and this turn
abbrev pub some_desk : Desk
some_desk = record { stream = name.Link 1; node = 2; base = 7 }

abbrev pub with_streams : List PlainStream → ℕ → PlainProducer
with_streams streams turn = record { desk = some_desk; handshake = handshake.Open true (named.Member 4); asked = 9; streams = streams; turn = turn; window = new_window 0 }

-- what a job comes to where each call is answered with nothing, as by vBuckets that are absent, and each request as by journals that are; and the calls that it makes
abbrev pub alone : {A : Type 0} → Job A → A
alone (Ended a) = a
alone (Call v call next) = alone (next None)
alone (Request v ask next) = alone (next (no_answer ask))

abbrev pub asked_in : {A : Type 0} → Job A → List (ℕ × VbCall)
asked_in (Ended a) = []
asked_in (Call v call next) = (v, call) ∷ asked_in (next None)
asked_in (Request v ask next) = asked_in (next (no_answer ask))

-- a pull of so many frames
abbrev pub pull : ℕ → PlainProducer → Job (Served × Halt)
pull frames end = frames_put frames (begun end)

-- what it told, how many frames it counted, why it put no more, and the connection then
abbrev pub lines_in : Job (Served × Halt) → List Event
lines_in job = (alone job).0.events

abbrev pub count_in : Job (Served × Halt) → ℕ × Halt
count_in job = ((alone job).0.count, (alone job).1)

abbrev pub end_in : Job (Served × Halt) → PlainProducer
end_in job = (alone job).0.end

-- ---- one stream of two items

-- a removal of a key, and a later one of another key
abbrev pub earlier : Change
earlier = record { seq = 5; key = 97 ∷ []; act = act.Remove 50 1 }

abbrev pub later : Change
later = record { seq = 8; key = 98 ∷ []; act = act.Abort 4 }

-- a stream of the vBucket 3 with both, of which so many were put, and which a change of role ended or did not end
abbrev pub some_stream : ℕ → ℕ → Bool → PlainStream
some_stream next reached ended = record { id = 7; vb = 3; opaque = 9; until = 99; first = record { start = 0; as_sets = false }; sync = true; place = 8; unread = None; items = earlier ∷ later ∷ []; next = next; marked = Some 8; reached = reached; ended = ended; gives = None }

-- a pull of so many frames of it alone, which has its turn first or last
abbrev pub pull_of_it : ℕ → PlainStream → Job (Served × Halt)
pull_of_it frames stream = pull frames (with_streams (stream ∷ []) 0)

abbrev pub streams_in : Job (Served × Halt) → List PlainStream
streams_in job = (end_in job).streams

-- their lines, and that of the end
abbrev pub first_line : Event
first_line = event.Item (name.Link 1) 5 item_act.Remove (97 ∷ [])

abbrev pub second_line : Event
second_line = event.Item (name.Link 1) 8 item_act.Abort (98 ∷ [])

abbrev pub end_line : ℕ → Event
end_line reason = event.Finished (name.Link 1) reason

-- Each frame is the next item, in the order of the snapshot, and behind the last one an ended stream's end; then the connection has none, and nothing more is put. Nothing is asked for it.
pub record PutInTurn : Type 0 where
  pub none : (lines_in (pull_of_it 0 (some_stream 0 4 true)) ≡ []) × (count_in (pull_of_it 0 (some_stream 0 4 true)) ≡ (0, halt.All))
  pub one : (lines_in (pull_of_it 1 (some_stream 0 4 true)) ≡ first_line ∷ []) × (streams_in (pull_of_it 1 (some_stream 0 4 true)) ≡ some_stream 1 5 true ∷ [])
  pub two : (lines_in (pull_of_it 2 (some_stream 0 4 true)) ≡ first_line ∷ second_line ∷ []) × (streams_in (pull_of_it 2 (some_stream 0 4 true)) ≡ some_stream 2 8 true ∷ [])
  pub open_two : (lines_in (pull_of_it 2 (some_stream 0 4 false)) ≡ first_line ∷ second_line ∷ []) × (streams_in (pull_of_it 2 (some_stream 0 4 false)) ≡ some_stream 2 8 false ∷ [])
  pub rest : lines_in (pull_of_it 1 (some_stream 1 5 true)) ≡ second_line ∷ []
  pub three : (lines_in (pull_of_it 3 (some_stream 0 4 true)) ≡ first_line ∷ second_line ∷ end_line 2 ∷ []) × (count_in (pull_of_it 3 (some_stream 0 4 true)) ≡ (3, halt.All)) × (streams_in (pull_of_it 3 (some_stream 0 4 true)) ≡ [])
  pub more : (lines_in (pull_of_it 9 (some_stream 0 4 true)) ≡ first_line ∷ second_line ∷ end_line 2 ∷ []) × (count_in (pull_of_it 9 (some_stream 0 4 true)) ≡ (3, halt.Idle)) × (asked_in (pull_of_it 9 (some_stream 0 4 true)) ≡ [])
  pub no_stream : (lines_in (pull 5 (with_streams [] 0)) ≡ []) × (count_in (pull 5 (with_streams [] 0)) ≡ (0, halt.Idle))

-- a pull of so many frames of that ended stream, through a window of this size
abbrev pub pull_through : ℕ → ℕ → Job (Served × Halt)
pull_through frames size = pull frames (record (with_streams (some_stream 0 4 true ∷ []) 0) { window = new_window size })

-- what is outstanding then
abbrev pub outstanding_in : Job (Served × Halt) → ℕ
outstanding_in job = (end_in job).window.outstanding

-- The frames of that stream have 43, 41 and 28 bytes. The window is asked for each: the last one that goes passes over the size, and behind all that were asked for it is not asked.
pub record HeldAtEdge : Type 0 where
  pub first : (count_in (pull_through 9 43) ≡ (1, halt.Full)) × (outstanding_in (pull_through 9 43) ≡ 43)
  pub both : (count_in (pull_through 9 44) ≡ (2, halt.Full)) × (outstanding_in (pull_through 9 44) ≡ 84)
  pub last : (count_in (pull_through 9 84) ≡ (2, halt.Full)) × (count_in (pull_through 9 85) ≡ (3, halt.Full))
  pub more : (count_in (pull_through 9 112) ≡ (3, halt.Full)) × (count_in (pull_through 9 113) ≡ (3, halt.Idle))
  pub asked : (count_in (pull_through 1 1) ≡ (1, halt.All)) × (count_in (pull_through 2 1) ≡ (1, halt.Full))
  pub free : (count_in (pull_through 9 0) ≡ (3, halt.Idle)) × (outstanding_in (pull_through 9 0) ≡ 0)

-- ---- streams that take turns

-- a stream of this number, of a vBucket of its own, with removals of these seqnos to put, of a snapshot that ends at this seqno, where this end was asked for
abbrev pub removal : ℕ → Change
removal seq = record { seq = seq; key = 97 ∷ []; act = act.Remove 50 1 }

abbrev pub stream_of : ℕ → ℕ → ℕ → List ℕ → PlainStream
stream_of id until end seqs = record { id = id; vb = id; opaque = 9; until = until; first = record { start = 0; as_sets = false }; sync = true; place = end; unread = None; items = map removal seqs; next = 0; marked = Some end; reached = 0; ended = false; gives = None }

-- the removals of these seqnos were put, in this order
abbrev pub item_of : ℕ → Event
item_of seq = event.Item (name.Link 1) seq item_act.Remove (97 ∷ [])

abbrev pub items_of : List ℕ → List Event
items_of seqs = map item_of seqs

-- a stream A, and another one B that is opened when A had the last turn
abbrev pub a_alone : PlainProducer
a_alone = with_streams (stream_of 1 99 12 (11 ∷ 12 ∷ []) ∷ []) 0

abbrev pub b_opened : PlainProducer
b_opened = with_opened (stream_of 2 99 22 (21 ∷ 22 ∷ [])) (end_in (pull 1 a_alone))

-- three streams; behind four turns the first one is closed, and it is opened anew when the second had the last turn
abbrev pub three_open : PlainProducer
three_open = with_streams (stream_of 1 99 12 (11 ∷ 12 ∷ 13 ∷ []) ∷ stream_of 2 99 24 (21 ∷ 22 ∷ 23 ∷ 24 ∷ []) ∷ stream_of 3 99 34 (31 ∷ 32 ∷ 33 ∷ 34 ∷ []) ∷ []) 0

abbrev pub first_closed : PlainProducer
first_closed = without_stream 1 (end_in (pull 4 three_open))

abbrev pub opened_anew : PlainProducer
opened_anew = with_opened (stream_of 4 99 41 (41 ∷ [])) (end_in (pull 3 first_closed))

-- The stream that was opened next after the one that had the last turn comes next, and behind the newest the oldest; one that is opened when the newest had the last turn comes before the oldest.
pub record TurnsInOrder : Type 0 where
  pub before : lines_in (pull 1 a_alone) ≡ items_of (11 ∷ [])
  pub opened : lines_in (pull 3 b_opened) ≡ items_of (21 ∷ 12 ∷ 22 ∷ [])
  pub round : lines_in (pull 4 three_open) ≡ items_of (11 ∷ 21 ∷ 31 ∷ 12 ∷ [])
  pub closed : lines_in (pull 3 first_closed) ≡ items_of (22 ∷ 32 ∷ 23 ∷ [])
  pub anew : lines_in (pull 4 opened_anew) ≡ items_of (33 ∷ 41 ∷ 24 ∷ 34 ∷ [])

-- ---- a requested end

-- a stream for which the end 2 was asked, with a snapshot that ends at 3, and one for which the end 4 was
abbrev pub ends_at : ℕ → PlainProducer
ends_at until = with_streams (stream_of 5 until 3 (1 ∷ 2 ∷ 3 ∷ []) ∷ []) 0

-- The snapshot that reaches the end is put whole, also above it, and behind its last item the stream is closed at its vBucket, once, and is over with reason 0; one whose snapshot does not reach it is not, and its vBucket is asked on.
pub record EndsBehindItems : Type 0 where
  pub items : (lines_in (pull 3 (ends_at 2)) ≡ items_of (1 ∷ 2 ∷ 3 ∷ [])) × (asked_in (pull 3 (ends_at 2)) ≡ [])
  pub over : (lines_in (pull 9 (ends_at 2)) ≡ item_of 1 ∷ item_of 2 ∷ item_of 3 ∷ end_line 0 ∷ []) × (asked_in (pull 9 (ends_at 2)) ≡ (5, call.CloseStream 5) ∷ []) × (count_in (pull 9 (ends_at 2)) ≡ (4, halt.Idle))
  pub edge : (lines_in (pull 9 (ends_at 3)) ≡ item_of 1 ∷ item_of 2 ∷ item_of 3 ∷ end_line 0 ∷ []) × (asked_in (pull 9 (ends_at 3)) ≡ (5, call.CloseStream 5) ∷ [])
  pub above : (asked_in (pull 9 (ends_at 4)) ≡ (5, call.Place 5) ∷ []) × (lines_in (pull 9 (ends_at 4)) ≡ item_of 1 ∷ item_of 2 ∷ item_of 3 ∷ end_line 2 ∷ [])

-- ---- a stream that its vBucket lost

-- what a job comes to where its first calls are answered so, and each later one with nothing, as by a vBucket that is absent
abbrev pub answered_so : {A : Type 0} → List VbAnswer → Job A → A
answered_so said (Ended a) = a
answered_so said (Request v ask next) = answered_so said (next (no_answer ask))
answered_so [] (Call v call next) = answered_so [] (next None)
answered_so (a ∷ said) (Call v call next) = answered_so said (next (Some (quiet_reply a)))

-- the stream for which the end 4 was asked, with a snapshot that ends at 3: its items are put, and then its vBucket is asked
abbrev pub asked_behind : List VbAnswer → Served × Halt
asked_behind said = answered_so said (pull 9 (ends_at 4))

-- Such a stream ends with reason 2 where its vBucket answers Absent to Place, or to Take behind a Place from memory, or is not there any more by then; where it has no snapshot yet, or the changes are to be saved first, the stream stays, and the pull says so.
pub record LostStreamsEnd : Type 0 where
  pub placed : ((asked_behind (answer.Absent ∷ [])).0.events ≡ item_of 1 ∷ item_of 2 ∷ item_of 3 ∷ end_line 2 ∷ []) × ((asked_behind (answer.Absent ∷ [])).0.end.streams ≡ [])
  pub taken : ((asked_behind (answer.Placed place.Memory ∷ answer.Absent ∷ [])).0.events ≡ item_of 1 ∷ item_of 2 ∷ item_of 3 ∷ end_line 2 ∷ []) × ((asked_behind (answer.Placed place.Memory ∷ answer.Absent ∷ [])).0.end.streams ≡ [])
  pub gone : ((asked_behind (answer.Placed place.Memory ∷ [])).0.events ≡ item_of 1 ∷ item_of 2 ∷ item_of 3 ∷ end_line 2 ∷ []) × ((asked_behind (answer.Placed place.Memory ∷ [])).0.end.streams ≡ [])
  pub none : ((asked_behind (answer.Placed place.Memory ∷ answer.Nothing ∷ [])).0.events ≡ items_of (1 ∷ 2 ∷ 3 ∷ [])) × ((asked_behind (answer.Placed place.Memory ∷ answer.Nothing ∷ [])).1 ≡ halt.Idle)
  pub waits : ((asked_behind (answer.Placed place.WaitSaved ∷ [])).0.events ≡ items_of (1 ∷ 2 ∷ 3 ∷ [])) × ((asked_behind (answer.Placed place.WaitSaved ∷ [])).1 ≡ halt.WaitSaved)
