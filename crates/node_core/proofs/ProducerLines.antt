-- which lines a producer tells as it answers frames, and as it puts those of its streams, whatever vBuckets reply
use Rattle.std.proofs.Common.{ℕ, Bool, true, false, List, [], ◌∷◌, ◌++◌, length, map, Option, Some, None, Result, Ok, Err}
use Rattle.std.specs.Prelude.{◌==◌, ◌||◌, nat_lt, if◌then◌else◌, codes, slice_get}
use Rattle.std.specs.List.{All, list_any}
use Rattle.std.specs.Str.{bytes_eq}
use Rattle.std.proofs.lemmas.List.Elements.{All-append, All-cons, All-map, All-nil}
use Rattle.mcbp_dcp.specs.Messages.{read_of}
use Rattle.mcbp_dcp.specs.Rows.{dcp_opcodes}
use Rattle.mcbp_dcp.specs.declared.message.DcpFault.{DcpFault}
use Rattle.mcbp_dcp.specs.declared.message.DcpMsg.{DcpMsg}
use Rattle.mcbp_dcp.specs.declared.message.DcpMsg.TheVariants as msg
use Rattle.mcbp_frame.specs.declared.frame.Frame.{Frame}
use Rattle.mcbp_frame.specs.declared.frame.TheConstants.{RESPONSE}
use Rattle.backfill.specs.Backfills.{backfilled}
use Rattle.backfill.specs.declared.backfilled.Backfilled.{Backfilled}
use Rattle.backfill.specs.declared.backfilled.Backfilled.TheVariants as filled
use Rattle.dcp_producer.specs.Frames.{Next, STATE_CHANGED, alive_next, backfill_next, changes_next, close_sent, go_on_by, next_by, next_frame, none_next, over, place_requested, place_said, placed_next, reaches_end, read_comes, read_job, role_of, state_next, step_next, take_answered, take_requested, taken_next, with_unread}
use Rattle.dcp_producer.specs.Producers.{PlainProducer, PlainStream, Served, begun, is_open, member_of, stream_at}
use Rattle.dcp_producer.specs.Pulling.{Halting, Pulling, QuietOnes, came, frames_put, is_quiet, none_quiet, one_frame, one_turn, past_turn, pull_of, pulled, stream_asked, stream_in_turn, turn_had, turns_came}
use Rattle.dcp_producer.specs.Serving.{acknowledged, close_requested, closed_sent, controlled, controlled_as, count_answered, count_requested, counted_by, fed_stream, frame_answered, heard, is_taken, log_answered, log_given, log_requested, log_sent, message_answered, open_refusal, opened_unless, opening_requested, opens, read_answered, refusal_requested, response_heard, row_answered, sized, sized_as, status_sent, stream_answered, stream_closed, stream_request, weighed}
use Rattle.takeover.specs.GivingUp.{done}
use Rattle.takeover.specs.declared.give_up.GiveStep.{GiveStep}
use Rattle.takeover.specs.declared.give_up.GiveStep.TheVariants as gives
use Rattle.takeover.specs.declared.give_up.GiveUp.{GiveUp}
use Rattle.dcp_producer.specs.declared.desk.Handshake.{Handshake}
use Rattle.dcp_producer.specs.declared.halt.Halt.{Halt}
use Rattle.dcp_producer.specs.declared.halt.Halt.TheVariants as halt
use Rattle.dcp_producer.specs.declared.next_frame.NextFrame.{NextFrame}
use Rattle.dcp_producer.specs.declared.next_frame.NextFrame.TheVariants as next
use Rattle.vb_calls.specs.Jobs.{Job, Ended, bind_job, repeated_job, AlwaysJob, IsRead, RanJob}
use Rattle.vb_calls.specs.Programs.{Prog, Done, Call, Turn, More, Stop, Ran, AnyReply, AnyCall, Always}
use Rattle.vb_calls.specs.Shelves.{Ask, Got}
use Rattle.vb_calls.specs.declared.calls.VbAnswer.{VbAnswer}
use Rattle.vb_calls.specs.declared.calls.VbAnswer.TheVariants as answer
use Rattle.vb_calls.specs.declared.calls.VbCall.{VbCall}
use Rattle.vb_calls.specs.declared.calls.VbCall.TheVariants as call
use Rattle.vb_calls.specs.declared.calls.VbReply.{VbReply}
use Rattle.vb_calls.proofs.JobConduct.{always_bind_job, always_repeated_job, always_so_job}
use Rattle.vb_events.specs.declared.event.Event.{Event}
use Rattle.vb_events.specs.declared.event.Event.TheVariants as event
use Rattle.vb_events.specs.declared.event.StreamName.{StreamName}
use Rattle.vb_types.specs.declared.change.Change.{Change}
use Rattle.vb_types.specs.declared.role.LogEntry.{LogEntry}
use Rattle.vb_types.specs.declared.role.Role.{Role}
use Rattle.vb_types.specs.declared.status.Status.{Status}
use Rattle.vb_types.specs.declared.status.Status.TheVariants as status
use Rattle.vb_types.specs.declared.stream.AskAnswer.{AskAnswer}
use Rattle.vb_types.specs.declared.stream.Place.{Place}
use Rattle.vb_types.specs.declared.stream.Place.TheVariants as place
use Rattle.vb_types.specs.declared.stream.StreamAsk.{StreamAsk}
use Rattle.node_core.specs.Clients.{IsProducers}
use Rattle.node_core.proofs.Turning.{ran_always, ran_always_job}

-- all lines so far are such
abbrev Tells : Served → Type 0
Tells s = All IsProducers s.events

abbrev Serves : Prog Served → Type 0
Serves prog = Always AnyCall Tells prog

either_serves : (b : Bool) (x y : Prog Served) → Serves x → Serves y → Serves (if b then x else y)
either_serves true x y p q = p
either_serves false x y p q = q

one_told : (line : Event) → IsProducers line → All IsProducers (line ∷ [])
one_told line is = All-cons IsProducers line [] is (All-nil IsProducers)

-- ---- answers

module _ (f : Frame) where
  status_tells : (st : Status) (s : Served) → Tells s → Tells (status_sent f st s)
  unfolding status_sent
  status_tells st s c = c

  answered_tells : (ask : StreamAsk) (s : Served) (log : List LogEntry) (high : ℕ) (said : AskAnswer) → Tells s → Tells (stream_answered f ask s log high said)
  unfolding stream_answered
  answered_tells ask s log high said c = All-append IsProducers s.events _ c (one_told _ tt)

  request_tells : (ask : StreamAsk) (s : Served) → Tells s → Serves (stream_request f ask s)
  unfolding stream_request
  request_tells ask s c =
      either_serves (opens s.end f.vb_or_status ask) (opening_requested f ask s) (refusal_requested f ask s)
      (tt, λ reply any. answered_tells ask _ _ _ _ c) (tt, λ reply any. answered_tells ask s _ _ _ c)

  changes_told : (n v uuid : ℕ) (changes : List Change) → All IsProducers (map (event.Changed n v uuid) changes)
  changes_told n v uuid changes = All-map IsProducers (event.Changed n v uuid) changes (λ k d below. tt)

  counted_tells : (member seq : ℕ) (s : Served) (reply : Option VbReply) → Tells s → Tells (count_answered f member seq s reply)
  counted_tells member seq s None c = status_tells status.NotMyVbucket s c
  counted_tells member seq s (Some reply) c = by reply.answer
    where
      by : (a : VbAnswer) → Tells (counted_by f member seq reply a s)
      by (answer.Status st) = status_tells st s c
      by other = All-append IsProducers s.events _ c (All-cons IsProducers _ _ tt (changes_told s.end.desk.node f.vb_or_status reply.branch reply.changes))

  weighed_tells : (seq : ℕ) (s : Served) (weight : Result ℕ Status) → Tells s → Serves (count_requested f seq s weight)
  weighed_tells seq s (Err st) c = status_tells st s c
  weighed_tells seq s (Ok member) c = (tt, λ reply any. counted_tells member seq s reply c)

  acknowledged_tells : (seq : ℕ) (s : Served) → Tells s → Serves (acknowledged f seq s)
  unfolding acknowledged
  acknowledged_tells seq s c =
      let weight : Result ℕ Status = weighed seq (fed_stream s.end.desk.stream (stream_at f.vb_or_status s.end.streams)) (member_of s.end.handshake) in
      either_serves (is_open s.end.handshake) (count_requested f seq s weight) (Done (status_sent f status.Einval s)) (weighed_tells seq s weight c) (status_tells status.Einval s c)

  closed_tells : (id : ℕ) (s : Served) → Tells s → Tells (closed_sent f id s)
  unfolding status_sent
  closed_tells id s c = c

  stream_closed_tells : (s : Served) (o : Option PlainStream) → Tells s → Serves (stream_closed f s o)
  stream_closed_tells s None c = status_tells status.KeyEnoent s c
  stream_closed_tells s (Some stream) c =
      either_serves stream.ended (Done (closed_sent f stream.id s)) (Call stream.vb (call.CloseStream stream.id) (λ reply. Done (closed_sent f stream.id s)))
      (closed_tells stream.id s c) (tt, λ reply any. closed_tells stream.id s c)

  close_tells : (s : Served) → Tells s → Serves (close_requested f s)
  close_tells s c =
      let found : Option PlainStream = stream_at f.vb_or_status s.end.streams in
      either_serves (is_open s.end.handshake) (stream_closed f s found) (Done (status_sent f status.Einval s)) (stream_closed_tells s found c) (status_tells status.Einval s c)

  sent_tells : (s : Served) (o : Option (List LogEntry)) → Tells s → Tells (log_sent f s o)
  sent_tells s None c = status_tells status.Einval s c
  sent_tells s (Some log) c = c

  logged_tells : (s : Served) (reply : Option VbReply) → Tells s → Tells (log_answered f s reply)
  logged_tells s None c = status_tells status.NotMyVbucket s c
  logged_tells s (Some reply) c = sent_tells s (log_given reply.answer) c

  log_tells : (s : Served) → Tells s → Serves (log_requested f s)
  log_tells s c =
      either_serves (is_open s.end.handshake) (Call f.vb_or_status call.Log (λ reply. Done (log_answered f s reply))) (Done (status_sent f status.Einval s))
      (tt, λ reply any. logged_tells s reply c) (status_tells status.Einval s c)

  sized_tells : (s : Served) (o : Option ℕ) → Tells s → Tells (sized_as o f s)
  unfolding status_sent
  sized_tells s None c = c
  sized_tells s (Some size) c = c

  controlled_tells : (s : Served) (o : Option Handshake) → Tells s → Tells (controlled_as o f s)
  unfolding status_sent
  controlled_tells s None c = c
  controlled_tells s (Some set) c = c

  either_tells : (b : Bool) (x y : Served) → Tells x → Tells y → Tells (if b then x else y)
  either_tells true x y p q = p
  either_tells false x y p q = q

  opened_tells : (s : Served) (o : Option Status) → Tells s → Tells (opened_unless o f s)
  unfolding status_sent
  opened_tells s None c = c
  opened_tells s (Some st) c = c

  message_tells : (m : DcpMsg) (s : Served) → Tells s → Serves (message_answered f m s)
  message_tells (msg.Open number flags name) s c = opened_tells s (open_refusal s.end.handshake flags) c
  message_tells (msg.Control key value) s c =
      either_tells (bytes_eq key (codes "connection_buffer_size")) (sized_as (sized s.end.handshake value) f s) (controlled_as (controlled s.end.handshake key value) f s)
      (sized_tells s (sized s.end.handshake value) c) (controlled_tells s (controlled s.end.handshake key value) c)
  message_tells (msg.StreamRequest ask) s c = request_tells ask s c
  message_tells (msg.SeqnoAcknowledged seq) s c = acknowledged_tells seq s c
  message_tells (msg.BufferAcknowledgement bytes) s c = either_tells (is_open s.end.handshake) _ (status_sent f status.Einval s) c (status_tells status.Einval s c)
  message_tells msg.CloseStream s c = close_tells s c
  message_tells msg.GetFailoverLog s c = log_tells s c
  message_tells msg.Noop s c = status_tells _ s c
  message_tells other s c = status_tells status.Einval s c

  row_tells : (read : Result DcpMsg DcpFault) (s : Served) → Tells s → Serves (row_answered f read s)
  row_tells (Err fault) s c = status_tells status.Einval s c
  row_tells (Ok m) s c = message_tells m s c

  read_tells : (o : Option (Result DcpMsg DcpFault)) (s : Served) → Tells s → Serves (read_answered f o s)
  read_tells None s c = status_tells status.Einval s c
  read_tells (Some read) s c = either_serves (f.datatype == 0) (row_answered f read s) (Done (status_sent f status.Einval s)) (row_tells read s c) (status_tells status.Einval s c)

  heard_tells : (s : Served) → Tells s → Tells (response_heard f s)
  heard_tells s c = either_tells (is_taken f) (record s { end = record s.end { streams = map (heard f.opaque) s.end.streams } }) s c c

  frame_tells : (s : Served) → Tells s → Serves (frame_answered f s)
  unfolding frame_answered
  frame_tells s c =
      either_serves (f.magic == RESPONSE) (Done (response_heard f s)) (if list_any (λ o. o == f.opcode) dcp_opcodes then read_answered f (read_of f) s else Done (status_sent f status.UnknownCommand s)) (heard_tells s c)
      (either_serves (list_any (λ o. o == f.opcode) dcp_opcodes) (read_answered f (read_of f) s) (Done (status_sent f status.UnknownCommand s)) (read_tells (read_of f) s c) (status_tells status.UnknownCommand s c))

-- ---- frames of streams

-- a frame of a stream has such a line
abbrev IsLine : Next → Type 0
IsLine (next.Put m line, left) = IsProducers line
IsLine other = Unit {0}

-- a job reads journals alone, and comes to such an answer
abbrev Reads : {A : Type 0} → (A → Type 0) → Job A → Type 0
Reads answers job = AlwaysJob AnyReply AnyCall IsRead answers job

abbrev Nexts : Job Next → Type 0
Nexts job = Reads IsLine job

-- what is read of a backfill comes to such a frame, or to none
abbrev MayLine : Option NextFrame × PlainStream → Type 0
MayLine (Some next, left) = IsLine (next, left)
MayLine (None, left) = Unit {0}

module _ (name : StreamName) where
  state_line : (stream : PlainStream) (g : GiveUp) (o : Option Role) → IsLine (state_next name stream g o)
  state_line stream g (Some told) = tt
  state_line stream g None = tt

  none_line : (stream : PlainStream) (o : Option GiveUp) → IsLine (none_next name stream o)
  none_line stream None = tt
  none_line stream (Some g) = state_line stream (done g) (role_of (done g).step)

  taken_line : (stream : PlainStream) (a : VbAnswer) → IsLine (taken_next name stream a)
  taken_line stream (answer.Taken snapshot) = tt
  taken_line stream answer.Nothing = none_line stream stream.gives
  taken_line stream other = tt

  take_line : (stream : PlainStream) (reply : Option VbReply) → IsLine (take_answered name stream reply)
  take_line stream None = tt
  take_line stream (Some reply) = taken_line stream reply.answer

  taken_lines : (stream : PlainStream) → Nexts (take_requested name stream)
  taken_lines stream = (tt, λ reply any. take_line stream reply)

  -- a backfill
  comes_line : (stream : PlainStream) (came : Backfilled) → MayLine (read_comes name stream came)
  comes_line stream (filled.Snapshot snapshot) = tt
  comes_line stream filled.Nothing = tt
  comes_line stream filled.Disk = tt

  backfill_lines : (on : PlainStream → Job Next) (end : ℕ) (stream : PlainStream) → ((left : PlainStream) → Nexts (on left)) → Nexts (backfill_next name on end stream)
  backfill_lines on end stream goes =
      always_bind_job AnyReply AnyCall IsRead MayLine IsLine (read_job name end stream) (go_on_by on) (tt, λ reading. comes_line stream (backfilled stream.place end stream.sync reading)) by
    where
      by : (came : Option NextFrame × PlainStream) → MayLine came → Nexts (go_on_by on came)
      by (Some next, left) is = is
      by (None, left) is = goes left

  placed_line : (stream : PlainStream) (o : Option Place) → Nexts (placed_next name stream o)
  placed_line stream (Some place.Memory) = taken_lines stream
  placed_line stream (Some (place.Backfill end)) = backfill_lines (take_requested name) end (with_unread end stream) taken_lines
  placed_line stream (Some place.WaitSaved) = tt
  placed_line stream None = tt

  either_line : (b : Bool) (x y : Job Next) → Nexts x → Nexts y → Nexts (if b then x else y)
  either_line true x y p q = p
  either_line false x y p q = q

  requested_line : (stream : PlainStream) → Nexts (place_requested name stream)
  requested_line stream = (tt, λ reply any. placed_line stream (place_said reply))

  changes_line : (stream : PlainStream) (o : Option ℕ) → Nexts (changes_next name stream o)
  changes_line stream None = requested_line stream
  changes_line stream (Some end) = backfill_lines (place_requested name) end stream requested_line

  step_line : (stream : PlainStream) (g : GiveUp) (at : GiveStep) → Nexts (step_next name stream g at)
  step_line stream g gives.SendAll = changes_line stream stream.unread
  step_line stream g gives.SendPending = tt
  step_line stream g gives.AwaitPending = tt
  step_line stream g gives.Yield = tt
  step_line stream g gives.SendRest = changes_line stream stream.unread
  step_line stream g gives.SendActive = tt
  step_line stream g gives.AwaitActive = tt
  step_line stream g gives.End = (tt, λ reply any. tt)

  alive_line : (stream : PlainStream) (o : Option GiveUp) → Nexts (alive_next name stream o)
  alive_line stream None = either_line (reaches_end stream.until stream.marked) (close_sent stream) (changes_next name stream stream.unread) (tt, λ reply any. tt) (changes_line stream stream.unread)
  alive_line stream (Some g) = step_line stream g g.step

  next_by_line : (stream : PlainStream) (o : Option Change) → Nexts (next_by name stream o)
  next_by_line stream (Some c) = tt
  next_by_line stream None = either_line stream.ended (Ended (over STATE_CHANGED stream)) (alive_next name stream stream.gives) tt (alive_line stream stream.gives)

  next_line : (stream : PlainStream) → Nexts (next_frame name stream)
  unfolding next_frame
  next_line stream = next_by_line stream (slice_get stream.items stream.next)

-- a stream's next frame is got by reading alone
pub next_reads : (name : StreamName) (stream : PlainStream) → AlwaysJob AnyReply AnyCall IsRead (λ next. Unit {0}) (next_frame name stream)
next_reads name stream = always_so_job AnyReply AnyCall IsRead IsLine (λ next. Unit {0}) (next_frame name stream) (λ next is. tt) (next_line name stream)

-- what a turn came to
abbrev Turned : Turn Pulling Halting → Type 0
Turned (More p) = Tells p.served
Turned (Stop (p, halted)) = Tells p.served

one_more : (s : Served) (line : Event) → IsProducers line → Tells s → All IsProducers (s.events ++ line ∷ [])
one_more s line is c = All-append IsProducers s.events (line ∷ []) c (one_told line is)

came_tells : (s : Served) (q : QuietOnes) (x : Next) → Tells s → IsLine x → Turned (came s q x)
came_tells s q (next.Put m line, left) c is = one_more s line is c
came_tells s q (next.End reason, left) c is = one_more s _ tt c
came_tells s q (next.Quiet waits, left) c is = c
came_tells s q (next.Disk, left) c is = c

asked_tells : (s : Served) (q : QuietOnes) (stream : PlainStream) → Tells s → Reads Turned (stream_asked s q stream)
asked_tells s q stream c = always_bind_job AnyReply AnyCall IsRead IsLine Turned (next_frame s.end.desk.stream stream) (λ x. Ended (came s q x)) (next_line s.end.desk.stream stream) (λ x is. came_tells s q x c is)

had_if : (s : Served) (q : QuietOnes) (stream : PlainStream) (b : Bool) → Tells s → Reads Turned (if b then Ended (More (pull_of s q)) else stream_asked s q stream)
had_if s q stream true c = c
had_if s q stream false c = asked_tells s q stream c

had_tells : (s : Served) (q : QuietOnes) (o : Option PlainStream) → Tells s → Reads Turned (turn_had s q o)
had_tells s q None c = c
had_tells s q (Some stream) c = had_if s q stream (is_quiet stream.id q) c

turn_tells : (p : Pulling) → Tells p.served → Reads Turned (one_turn p)
unfolding one_turn
turn_tells p c = had_tells (past_turn p.served) p.quiet (stream_in_turn p.served.end) c

turns_tell : (k : ℕ) (p : Pulling) → Tells p.served → Reads Turned (repeated_job k one_turn p)
turns_tell k p c = always_repeated_job AnyReply AnyCall IsRead Turned one_turn turn_tells k p c

-- what a frame came to
abbrev Framed : Turn Pulling (Served × Halt) → Type 0
Framed (More p) = Tells p.served
Framed (Stop stopped) = Tells stopped.0

turns_framed : (t : Turn Pulling Halting) → Turned t → Framed (turns_came t)
turns_framed (Stop (p, None)) c = c
turns_framed (Stop (p, Some halted)) c = c
turns_framed (More p) c = c

framed_if : (p : Pulling) (b : Bool) → Tells p.served
    → Reads Framed (if b then bind_job (repeated_job (length p.served.end.streams) one_turn p) (λ turns. Ended (turns_came turns)) else Ended (Stop (p.served, halt.Full)))
framed_if p true c =
    always_bind_job AnyReply AnyCall IsRead Turned Framed (repeated_job (length p.served.end.streams) one_turn p) (λ turns. Ended (turns_came turns)) (turns_tell (length p.served.end.streams) p c) turns_framed
framed_if p false c = c

-- a connection's window lets a frame through
abbrev lets_through : PlainProducer → Bool
lets_through end = end.window.size == 0 || nat_lt end.window.outstanding end.window.size

framed_tells : (p : Pulling) → Tells p.served → Reads Framed (one_frame p)
unfolding one_frame
framed_tells p c = framed_if p (lets_through p.served.end) c

abbrev Put : Served × Halt → Type 0
Put put = Tells put.0

put_tells : (t : Turn Pulling (Served × Halt)) → Framed t → Reads Put (pulled t)
put_tells (More p) c = c
put_tells (Stop stopped) c = c

-- a pull reads journals alone, and tells such lines
pull_tells : (k : ℕ) (s : Served) → Tells s → Reads Put (frames_put k s)
unfolding frames_put
pull_tells k s c =
    always_bind_job AnyReply AnyCall IsRead Framed Put (repeated_job k one_frame (pull_of s none_quiet)) pulled (always_repeated_job AnyReply AnyCall IsRead Framed one_frame framed_tells k (pull_of s none_quiet) c) put_tells

none_told : (end : PlainProducer) → Tells (begun end)
none_told end = All-nil IsProducers

-- so does one that begins
pub pull_reads : (k : ℕ) (end : PlainProducer) → AlwaysJob AnyReply AnyCall IsRead (λ put. All IsProducers put.0.events) (frames_put k (begun end))
pull_reads k end = pull_tells k (begun end) (none_told end)

-- ---- in code

module _ {W : Type 0} (step : W → ℕ → VbCall → Option VbReply → W → Type 0) where
  -- what was told of a frame that was answered
  pub answers_told : (f : Frame) (end : PlainProducer) (old : W) (s : Served) (new : W) → Ran step (frame_answered f (begun end)) old s new → All IsProducers s.events
  answers_told f end old s new ran = ran_always step Tells (frame_answered f (begun end)) old s new (frame_tells f (begun end) (none_told end)) ran

  -- what was told of frames that were put
  pub frames_told : {J : Type 0} (asks : J → ℕ → (ask : Ask) → Got ask → J → Type 0) (k : ℕ) (end : PlainProducer) (old : W) (kept : J) (put : Served × Halt) (new : W) (left : J)
      → RanJob step asks (frames_put k (begun end)) old kept put new left → All IsProducers put.0.events
  frames_told asks k end old kept put new left ran = ran_always_job step asks IsRead Put (frames_put k (begun end)) old kept put new left (pull_reads k end) ran
