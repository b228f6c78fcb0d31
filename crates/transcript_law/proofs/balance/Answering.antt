-- what the answer to a frame leaves of the window, and what it puts on its way to the consumer
use Rattle.std.proofs.Common.{◌≡◌, ℕ, ◌<◌, ◌≤◌, Bool, true, false, List, [], ◌++◌, length, refl, ap, ◌∙◌, subst, arith, ◌⊎◌, inl, inr, Option, Some, None, Result, Ok, Err}
use Rattle.std.specs.Prelude.{map, ◌-◌, if◌then◌else◌, ◌==◌, ◌^◌, codes, decimal}
use Rattle.std.specs.Int.{w32, w64, to_be_bytes}
use Rattle.std.specs.Option.{option_map}
use Rattle.std.proofs.lemmas.Fmt.{length-decimal-le}
use Rattle.std.specs.Str.{bytes_eq}
use Rattle.std.specs.List.{list_any}
use Rattle.mcbp_frame.specs.declared.frame.Frame.{Frame}
use Rattle.mcbp_frame.specs.declared.frame.TheConstants.{RESPONSE}
use Rattle.mcbp_frame.specs.Spelling.{spelling, Readable}
use Rattle.mcbp_dcp.specs.declared.message.DcpMsg.{DcpMsg}
use Rattle.mcbp_dcp.specs.declared.message.DcpMsg.TheVariants as msg
use Rattle.mcbp_dcp.specs.declared.message.DcpFault.{DcpFault}
use Rattle.mcbp_dcp.specs.DcpFrames.{dcp_frame, frame_of_row, open_extras, request_frame}
use Rattle.mcbp_dcp.specs.Messages.{read_of, read_as, message_in, unless_fault}
use Rattle.mcbp_dcp.specs.Shapes.{shape_fault}
use Rattle.mcbp_dcp.specs.declared.row.DcpRow.{DcpRow}
use Rattle.mcbp_dcp.specs.declared.row.DcpRow.TheVariants as row
use Rattle.mcbp_dcp.proofs.DcpBack.{message_back}
use Rattle.mcbp_dcp.proofs.DcpLens.{length_dcp}
use Rattle.mcbp_dcp.specs.Rows.{dcp_opcodes, frame_row}
use Rattle.vb_types.specs.declared.role.LogEntry.{LogEntry}
use Rattle.vb_types.specs.declared.stream.AskAnswer.{AskAnswer}
use Rattle.vb_types.specs.declared.stream.AskAnswer.TheVariants as ask_answer
use Rattle.vb_types.specs.declared.status.Status.{Status}
use Rattle.vb_types.specs.declared.status.Status.TheVariants as status
use Rattle.vb_types.specs.declared.stream.StreamAsk.{StreamAsk}
use Rattle.vb_types.specs.Statuses.{status_code}
use Rattle.vb_calls.specs.declared.calls.VbAnswer.{VbAnswer}
use Rattle.vb_calls.specs.declared.calls.VbAnswer.TheVariants as answer
use Rattle.vb_calls.specs.declared.calls.VbCall.TheVariants as call
use Rattle.vb_calls.specs.declared.calls.VbReply.{VbReply}
use Rattle.vb_calls.specs.Programs.{Prog, Done, Call, AnyCall, Always, after}
use Rattle.vb_calls.specs.State.{Plain}
use Rattle.vb_calls.specs.States.{States, call_at}
use Rattle.vb_calls.specs.Streams.{open_outcome, open_refusal, judged_open}
use Rattle.branch_model.specs.Requests.{rule}
use Rattle.vb_types.specs.declared.stream.Verdict.{Verdict}
use Rattle.vb_types.specs.declared.stream.Verdict.TheVariants as verdict
use Rattle.vb_calls.proofs.Conduct.{after_always}
use Rattle.transcript_law.proofs.balance.Rooms.{Room, room_acked, room_of, room_sized}
use Rattle.dcp_producer.specs.declared.desk.Handshake.{Handshake}
use Rattle.dcp_producer.specs.declared.desk.Handshake.TheVariants as shaken
use Rattle.dcp_producer.proofs.Decimals.{sizes}
use Rattle.dcp_producer.specs.Producers.{PlainProducer, PlainStream, Served, is_open, is_sync, member_of, stream_at, without_stream}
use Rattle.dcp_producer.specs.Serving.{heard, is_taken, response_heard, status_frame, status_sent, open_refusal as shaken_refusal, opened_unless, controlled, controlled_as, sized, sized_as, log_of_reply, high_of_reply, ask_verdict, request_refusal, opens, next_stream, with_asked, verdict_with, stream_verdict, with_granted, stream_answered, opened_answered, opening_requested, refused_answered, refusal_requested, stream_request, closed_sent, stream_closed, close_requested, log_sent, log_answered, log_requested, fed_stream, weighed, counted_by, count_answered, count_requested, acknowledged, message_answered, row_answered, read_answered, frame_answered, place_of_reply}
use Rattle.vb_types.specs.declared.stream.Place.{Place}

-- one more answer, or none, behind these bytes
abbrev pub Answers : List ℕ → List ℕ → Type 0
Answers before now = (now ≡ before) ⊎ ((g : Frame) × Readable g × (g.magic ≡ RESPONSE) × (now ≡ before ++ spelling g))

-- the window after a CONTROL of its size
abbrev pub sized_window : Option ℕ → Room → Room
sized_window None w = w
sized_window (Some size) w = room_sized size w

-- the window after a message
abbrev pub window_after : DcpMsg → Handshake → Room → Room
window_after (msg.BufferAcknowledgement bytes) h w = if is_open h then room_acked bytes w else w
window_after (msg.Control key value) h w = if bytes_eq key (codes "connection_buffer_size") then sized_window (sized h value) w else w
window_after other h w = w

-- the window after what was read of a frame
abbrev pub window_read : Result DcpMsg DcpFault → Handshake → Room → Room
window_read (Ok m) h w = window_after m h w
window_read (Err fault) h w = w

code_small : (st : Status) → status_code st < 2 ^ 16
code_small status.Success = omega arith
code_small status.KeyEnoent = omega arith
code_small status.KeyEexists = omega arith
code_small status.E2big = omega arith
code_small status.Einval = omega arith
code_small status.NotMyVbucket = omega arith
code_small status.Erange = omega arith
code_small status.Rollback = omega arith
code_small status.UnknownFrameInfo = omega arith
code_small status.UnknownCommand = omega arith
code_small status.Enomem = omega arith
code_small status.NotSupported = omega arith
code_small status.Etmpfail = omega arith
code_small status.DurabilityInvalidLevel = omega arith
code_small status.DurabilityImpossible = omega arith
code_small status.SyncWriteInProgress = omega arith
code_small status.SyncWriteAmbiguous = omega arith
code_small status.SyncWriteReCommitInProgress = omega arith

-- what is made of the window and of the bytes, where the window is to be this one
abbrev pub ServedAs : Room → Served → Served → Type 0
ServedAs w s s' = (room_of s'.end ≡ w) × Answers s.out s'.out

module _ (f : Frame) (small : f.opaque < 2 ^ 32) where
  status_readable : (st : Status) → Readable (status_frame f st)
  status_readable st = let code = code_small st in record {
    fits = record { framing = omega arith; extras = omega arith; key = omega arith; body = omega arith };
    magic = refl;
    limit = omega arith;
    vb_or_status = code;
    opaque = small;
    cas = omega arith;
  }

  sent : (st : Status) (s t : Served) → t.out ≡ s.out → ServedAs (room_of t.end) s (status_sent f st t)
  unfolding status_sent
  sent st s t same = (refl, inr (status_frame f st, status_readable st, refl, ap (λ b. b ++ spelling (status_frame f st)) same))

  refused : (st : Status) (s : Served) → ServedAs (room_of s.end) s (status_sent f st s)
  refused st s = sent st s s refl

  opened : (why : Option Status) (s : Served) → ServedAs (room_of s.end) s (opened_unless why f s)
  opened None s = sent status.Success s _ refl
  opened (Some st) s = refused st s

  set : (how : Option Handshake) (s : Served) → ServedAs (room_of s.end) s (controlled_as how f s)
  set None s = refused status.Einval s
  set (Some how) s = sent status.Success s _ refl

  resized : (of : Option ℕ) (s : Served) → ServedAs (sized_window of (room_of s.end)) s (sized_as of f s)
  resized None s = refused status.Einval s
  resized (Some size) s = sent status.Success s _ refl

  control : (s : Served) (b : Bool) (how : Option Handshake) (of : Option ℕ) → ServedAs (if b then sized_window of (room_of s.end) else (room_of s.end)) s (if b then sized_as of f s else controlled_as how f s)
  control s true how of = resized of s
  control s false how of = set how s

  counted : (member seq : ℕ) (reply : VbReply) (said : VbAnswer) (s : Served) → ServedAs (room_of s.end) s (counted_by f member seq reply said s)
  counted member seq reply (answer.Status st) s = refused st s
  counted member seq reply other s = (refl, inl refl)

  count_served : (member seq : ℕ) (s : Served) (reply : Option VbReply) → ServedAs (room_of s.end) s (count_answered f member seq s reply)
  count_served member seq s None = refused status.NotMyVbucket s
  count_served member seq s (Some reply) = counted member seq reply reply.answer s

  weighed_served : (seq : ℕ) (s : Served) (weighed : Result ℕ Status) → Always AnyCall (ServedAs (room_of s.end) s) (count_requested f seq s weighed)
  weighed_served seq s (Err st) = refused st s
  weighed_served seq s (Ok member) = (tt, λ reply any. count_served member seq s reply)

  acknowledged_served : (seq : ℕ) (s : Served) → Always AnyCall (ServedAs (room_of s.end) s) (acknowledged f seq s)
  unfolding acknowledged
  acknowledged_served seq s = by (is_open s.end.handshake)
    where
      weight : Result ℕ Status
      weight = weighed seq (fed_stream s.end.desk.stream (stream_at f.vb_or_status s.end.streams)) (member_of s.end.handshake)

      by : (b : Bool) → Always AnyCall (ServedAs (room_of s.end) s) (if b then count_requested f seq s weight else Done (status_sent f status.Einval s))
      by true = weighed_served seq s weight
      by false = refused status.Einval s

  -- a stream that its consumer closes
  closed_served : (id : ℕ) (s : Served) → ServedAs (room_of s.end) s (closed_sent f id s)
  closed_served id s = sent status.Success s (record s { end = without_stream id s.end }) refl

  close_served : (s : Served) → Always AnyCall (ServedAs (room_of s.end) s) (close_requested f s)
  close_served s = by (is_open s.end.handshake)
    where
      at : (stream : PlainStream) (b : Bool) → Always AnyCall (ServedAs (room_of s.end) s) (if b then Done (closed_sent f stream.id s) else Call stream.vb (call.CloseStream stream.id) (λ reply. Done (closed_sent f stream.id s)))
      at stream true = closed_served stream.id s
      at stream false = (tt, λ reply any. closed_served stream.id s)

      found : (o : Option PlainStream) → Always AnyCall (ServedAs (room_of s.end) s) (stream_closed f s o)
      found None = refused status.KeyEnoent s
      found (Some stream) = at stream stream.ended

      by : (b : Bool) → Always AnyCall (ServedAs (room_of s.end) s) (if b then stream_closed f s (stream_at f.vb_or_status s.end.streams) else Done (status_sent f status.Einval s))
      by true = found (stream_at f.vb_or_status s.end.streams)
      by false = refused status.Einval s

  -- the failover log of a vBucket
  log_readable : (log : List LogEntry) → length log ≤ 25 → Readable (dcp_frame (msg.LogAnswer 0 log) f.opaque 0) × ((dcp_frame (msg.LogAnswer 0 log) f.opaque 0).magic ≡ RESPONSE)
  unfolding dcp_frame
  log_readable log short =
      let len = length_dcp (msg.LogAnswer 0 log) f.opaque 0 in
      (record { fits = record { framing = omega arith; extras = omega arith; key = omega arith; body = omega (arith, len) }; magic = refl; limit = omega (arith, len); vb_or_status = omega arith; opaque = small; cas = omega arith }, refl)

  logged : (s : Served) (log : List LogEntry) → length log ≤ 25 → ServedAs (room_of s.end) s (log_sent f s (Some log))
  logged s log short = let good = log_readable log short in (refl, inr (dcp_frame (msg.LogAnswer 0 log) f.opaque 0, good.0, good.1, refl))

  log_served : (s : Served) (states : States) → ((vb : Plain) → states f.vb_or_status ≡ Some vb → length vb.log ≤ 25) → ServedAs (room_of s.end) s (after (log_requested f s) states).1
  log_served s states short = by (is_open s.end.handshake)
    where
      there : (o : Option Plain) → states f.vb_or_status ≡ o → ServedAs (room_of s.end) s (log_answered f s (call_at states f.vb_or_status call.Log o).1)
      there None e = refused status.NotMyVbucket s
      there (Some vb) e = logged s vb.log (short vb e)

      by : (b : Bool) → ServedAs (room_of s.end) s (after (if b then Call f.vb_or_status call.Log (λ reply. Done (log_answered f s reply)) else Done (status_sent f status.Einval s)) states).1
      by true = there (states f.vb_or_status) refl
      by false = refused status.Einval s

  bytes_served : (bytes : ℕ) (s : Served) (free : Bool)
      → ServedAs (if free then room_acked bytes (room_of s.end) else (room_of s.end)) s (if free then record s { end = record s.end { window = record s.end.window { outstanding = s.end.window.outstanding - bytes } } } else status_sent f status.Einval s)
  bytes_served bytes s true = (refl, inl refl)
  bytes_served bytes s false = refused status.Einval s

-- ---- a request for a stream

-- a refusal has a status
abbrev pub CodeFits : AskAnswer → Type 0
CodeFits ask_answer.Go = Unit {0}
CodeFits (ask_answer.Roll to) = Unit {0}
CodeFits (ask_answer.Refuse code) = code < 2 ^ 16

-- a reply with a log that goes into an answer, and such a verdict
abbrev pub ReplyFits : Option VbReply → Type 0
ReplyFits reply = (length (log_of_reply reply) ≤ 25) × CodeFits (ask_verdict reply)

abbrev told_frame : ℕ → List LogEntry → AskAnswer → Frame
told_frame o log said = dcp_frame (msg.StreamAnswer (stream_verdict log said)) o 0

told_readable : (o : ℕ) (log : List LogEntry) (said : AskAnswer) → o < 2 ^ 32 → length log ≤ 25 → CodeFits said → Readable (told_frame o log said) × ((told_frame o log said).magic ≡ RESPONSE)
unfolding dcp_frame
told_readable o log ask_answer.Go few short fits =
    let len = length_dcp (msg.StreamAnswer (stream_verdict log ask_answer.Go)) o 0 in
    (record { fits = record { framing = omega arith; extras = omega arith; key = omega arith; body = omega (arith, len) }; magic = refl; limit = omega (arith, len); vb_or_status = omega arith; opaque = few; cas = omega arith }, refl)
told_readable o log (ask_answer.Roll to) few short fits =
    (record { fits = record { framing = omega arith; extras = omega arith; key = omega arith; body = omega arith }; magic = refl; limit = omega arith; vb_or_status = omega arith; opaque = few; cas = omega arith }, refl)
told_readable o log (ask_answer.Refuse code) few short fits =
    (record { fits = record { framing = omega arith; extras = omega arith; key = omega arith; body = omega arith }; magic = refl; limit = omega arith; vb_or_status = fits; opaque = few; cas = omega arith }, refl)

verdict_fits : (own : Option Status) (said : AskAnswer) → CodeFits said → CodeFits (verdict_with own said)
verdict_fits None said fits = fits
verdict_fits (Some st) said fits = code_small st

-- what the vBucket replies fits
judged_fits : (said : Verdict) (vb : Plain) (id : ℕ) (ask : StreamAsk) (sync : Bool) → length vb.log ≤ 25 → ReplyFits (Some (judged_open said vb id ask sync).1)
judged_fits verdict.Continue vb id ask sync short = (short, tt)
judged_fits (verdict.Roll to) vb id ask sync short = (short, tt)

outcome_fits : (why : Option Status) (vb : Plain) (id : ℕ) (ask : StreamAsk) (sync : Bool) → length vb.log ≤ 25 → ReplyFits (Some (open_outcome why vb id ask sync).1)
outcome_fits (Some st) vb id ask sync short = (short, code_small st)
outcome_fits None vb id ask sync short = judged_fits (rule vb.log vb.position.at ask) vb id ask sync short

call_fits : (states : States) (v id : ℕ) (ask : StreamAsk) (sync : Bool) (there : Option Plain) → ((vb : Plain) → there ≡ Some vb → length vb.log ≤ 25) → ReplyFits (call_at states v (call.OpenStream id ask sync) there).1
call_fits states v id ask sync None short = (omega arith, omega arith)
call_fits states v id ask sync (Some vb) short = outcome_fits (open_refusal vb id ask) vb id ask sync (short vb refl)

stream_room : (end : PlainProducer) (id : ℕ) (f : Frame) (ask : StreamAsk) (from : Place) (said : AskAnswer) → room_of (with_granted end id f ask from said) ≡ room_of end
stream_room end id f ask from ask_answer.Go = refl
stream_room end id f ask from (ask_answer.Roll to) = refl
stream_room end id f ask from (ask_answer.Refuse code) = refl

module _ (f : Frame) (small : f.opaque < 2 ^ 32) where
  told_served : (ask : StreamAsk) (s : Served) (end : PlainProducer) (log : List LogEntry) (high : ℕ) (said : AskAnswer) → room_of end ≡ room_of s.end → length log ≤ 25 → CodeFits said
      → ServedAs (room_of s.end) s (stream_answered f ask (record s { end = end }) log high said)
  unfolding stream_answered
  told_served ask s end log high said same short fits = let good = told_readable f.opaque log said small short fits in (same, inr (told_frame f.opaque log said, good.0, good.1, refl))

  opened_served : (ask : StreamAsk) (s : Served) (reply : Option VbReply) → ReplyFits reply → ServedAs (room_of s.end) s (opened_answered f ask s reply)
  opened_served ask s reply fits =
      told_served ask s _ (log_of_reply reply) (high_of_reply reply) (ask_verdict reply) (stream_room (with_asked s.end) (next_stream s.end) f ask (place_of_reply reply) (ask_verdict reply)) fits.0 fits.1

  refused_served : (ask : StreamAsk) (s : Served) (reply : Option VbReply) → ReplyFits reply → ServedAs (room_of s.end) s (refused_answered f ask s reply)
  refused_served ask s reply fits =
      told_served ask s s.end (log_of_reply reply) (high_of_reply reply) (verdict_with (request_refusal s.end ask) (ask_verdict reply)) refl fits.0 (verdict_fits (request_refusal s.end ask) (ask_verdict reply) fits.1)

  asked_served : (ask : StreamAsk) (s : Served) (states : States) → ((vb : Plain) → states f.vb_or_status ≡ Some vb → length vb.log ≤ 25) → ServedAs (room_of s.end) s (after (stream_request f ask s) states).1
  unfolding stream_request
  asked_served ask s states short = by (opens s.end f.vb_or_status ask)
    where
      by : (b : Bool) → ServedAs (room_of s.end) s (after (if b then opening_requested f ask s else refusal_requested f ask s) states).1
      by true = opened_served ask s (call_at states f.vb_or_status (call.OpenStream (next_stream s.end) ask (is_sync s.end.handshake)) (states f.vb_or_status)).1
          (call_fits states f.vb_or_status (next_stream s.end) ask (is_sync s.end.handshake) (states f.vb_or_status) short)
      by false = refused_served ask s (call_at states f.vb_or_status (call.OpenStream 0 ask (is_sync s.end.handshake)) (states f.vb_or_status)).1
          (call_fits states f.vb_or_status 0 ask (is_sync s.end.handshake) (states f.vb_or_status) short)

  -- ---- a frame

  module _ (states : States) (short : (vb : Plain) → states f.vb_or_status ≡ Some vb → length vb.log ≤ 25) where
    abbrev Comes : Room → Served → Prog Served → Type 0
    Comes w s prog = ServedAs w s (after prog states).1

    pub message_served : (m : DcpMsg) (s : Served) → Comes (window_after m s.end.handshake (room_of s.end)) s (message_answered f m s)
    message_served (msg.Open number flags name) s = opened f small (shaken_refusal s.end.handshake flags) s
    message_served (msg.Control key value) s = control f small s (bytes_eq key (codes "connection_buffer_size")) (controlled s.end.handshake key value) (sized s.end.handshake value)
    message_served (msg.StreamRequest ask) s = asked_served ask s states short
    message_served (msg.StreamEnd reason) s = refused f small status.Einval s
    message_served (msg.SnapshotMarker start end flags) s = refused f small status.Einval s
    message_served (msg.Mutation change) s = refused f small status.Einval s
    message_served (msg.Deletion change) s = refused f small status.Einval s
    message_served (msg.Prepare change) s = refused f small status.Einval s
    message_served (msg.Commit change) s = refused f small status.Einval s
    message_served (msg.Abort change) s = refused f small status.Einval s
    message_served (msg.SeqnoAcknowledged seq) s = after_always AnyCall (ServedAs (room_of s.end) s) (acknowledged f seq s) states (acknowledged_served f small seq s)
    message_served msg.CloseStream s = after_always AnyCall (ServedAs (room_of s.end) s) (close_requested f s) states (close_served f small s)
    message_served msg.GetFailoverLog s = log_served f small s states short
    message_served msg.Noop s = refused f small _ s
    message_served (msg.BufferAcknowledgement bytes) s = bytes_served f small bytes s (is_open s.end.handshake)
    message_served (msg.SetVbucketState to) s = refused f small status.Einval s
    message_served (msg.OpenAnswer st) s = refused f small status.Einval s
    message_served (msg.ControlAnswer st) s = refused f small status.Einval s
    message_served (msg.StreamAnswer told) s = refused f small status.Einval s
    message_served (msg.CloseAnswer st) s = refused f small status.Einval s
    message_served (msg.NoopAnswer st) s = refused f small status.Einval s
    message_served (msg.LogAnswer st log) s = refused f small status.Einval s
    message_served (msg.StateAnswer st) s = refused f small status.Einval s

-- the window after a frame that was read so
abbrev window_of : Frame → Option (Result DcpMsg DcpFault) → Handshake → Room → Room
window_of f None h w = w
window_of f (Some read) h w = if f.datatype == 0 then window_read read h w else w

-- the window after a frame
abbrev pub window_behind : Frame → Handshake → Room → Room
window_behind f h w = if f.magic == RESPONSE then w else if list_any (λ o. o == f.opcode) dcp_opcodes then window_of f (read_of f) h w else w

module _ (f : Frame) (small : f.opaque < 2 ^ 32) (states : States) (short : (vb : Plain) → states f.vb_or_status ≡ Some vb → length vb.log ≤ 25) (s : Served) where
  abbrev Becomes : Room → Prog Served → Type 0
  Becomes w prog = ServedAs w s (after prog states).1

  either_becomes : (b : Bool) (v w : Room) (p q : Prog Served) → Becomes v p → Becomes w q → Becomes (if b then v else w) (if b then p else q)
  either_becomes true v w p q first second = first
  either_becomes false v w p q first second = second

  row_becomes : (read : Result DcpMsg DcpFault) → Becomes (window_read read s.end.handshake (room_of s.end)) (row_answered f read s)
  row_becomes (Ok m) = message_served f small states short m s
  row_becomes (Err fault) = refused f small status.Einval s

  read_becomes : (read : Option (Result DcpMsg DcpFault)) → Becomes (window_of f read s.end.handshake (room_of s.end)) (read_answered f read s)
  read_becomes None = refused f small status.Einval s
  read_becomes (Some read) =
      either_becomes (f.datatype == 0) (window_read read s.end.handshake (room_of s.end)) (room_of s.end) (row_answered f read s) (Done (status_sent f status.Einval s)) (row_becomes read) (refused f small status.Einval s)

  -- a response leaves the window, and has no answer
  response_becomes : (b : Bool) → Becomes (room_of s.end) (Done (if b then record s { end = record s.end { streams = map (heard f.opaque) s.end.streams } } else s))
  response_becomes true = (refl, inl refl)
  response_becomes false = (refl, inl refl)

  pub frame_becomes : Becomes (window_behind f s.end.handshake (room_of s.end)) (frame_answered f s)
  unfolding frame_answered
  frame_becomes =
      let h = s.end.handshake in let w : Room = (room_of s.end) in
      let known : Bool = list_any (λ o. o == f.opcode) dcp_opcodes in
      either_becomes (f.magic == RESPONSE) w (if known then window_of f (read_of f) h w else w) (Done (response_heard f s)) (if known then read_answered f (read_of f) s else Done (status_sent f status.UnknownCommand s)) (response_becomes (is_taken f))
      (either_becomes known (window_of f (read_of f) h w) w (read_answered f (read_of f) s) (Done (status_sent f status.UnknownCommand s)) (read_becomes (read_of f)) (refused f small status.UnknownCommand s))

-- ---- which frames change the window

-- not one of this row
abbrev pub Leaves : Frame → DcpRow → Type 0
Leaves f row.BufferAcknowledgement = ⊥
Leaves f row.Control = bytes_eq f.key (codes "connection_buffer_size") ≡ false
Leaves f other = Unit {0}

module _ (f : Frame) (h : Handshake) (w : Room) where
  same_both : (b : Bool) (v u : Room) → v ≡ w → u ≡ w → (if b then v else u) ≡ w
  same_both true v u first second = first
  same_both false v u first second = second

  row_left : (r : DcpRow) → Leaves f r → (fault : Option DcpFault) → window_read (unless_fault fault (message_in r f)) h w ≡ w
  row_left r leaves (Some fault) = refl
  row_left row.BufferAcknowledgement leaves None = absurd leaves
  row_left row.Control leaves None = ap (λ b. if b then sized_window (sized h f.value) w else w) leaves
  row_left other leaves None = refl

  read_left : (r : Option DcpRow) → ((x : DcpRow) → r ≡ Some x → Leaves f x) → window_of f (option_map (read_as f) r) h w ≡ w
  read_left None leaves = refl
  read_left (Some r) leaves = same_both (f.datatype == 0) (window_read (read_as f r) h w) w (row_left r (leaves r refl) (shape_fault r f)) refl

  pub window_left : ((x : DcpRow) → frame_row f ≡ Some x → Leaves f x) → window_behind f h w ≡ w
  unfolding read_of
  window_left leaves =
      same_both (f.magic == RESPONSE) w (if list_any (λ o. o == f.opcode) dcp_opcodes then window_of f (read_of f) h w else w) refl
      (same_both (list_any (λ o. o == f.opcode) dcp_opcodes) (window_of f (read_of f) h w) w (read_left (frame_row f) leaves) refl)

-- what the requests of a consumer leave
module _ (h : Handshake) (w : Room) where
  the_row : {x y : DcpRow} → Some x ≡ Some y → x ≡ y
  the_row e = cc

  pub open_left : (number flags : ℕ) (name : List ℕ) (o v : ℕ) → window_behind (dcp_frame (msg.Open number flags name) o v) h w ≡ w
  unfolding dcp_frame frame_row
  open_left number flags name o v = let f : Frame = frame_of_row row.Open v o (open_extras number flags) name [] in window_left f h w (λ x e. subst (Leaves f) (the_row e) tt)

  pub control_left : (key value : List ℕ) (o v : ℕ) → bytes_eq key (codes "connection_buffer_size") ≡ false → window_behind (dcp_frame (msg.Control key value) o v) h w ≡ w
  unfolding dcp_frame frame_row
  control_left key value o v other = let f : Frame = frame_of_row row.Control v o [] key value in window_left f h w (λ x e. subst (Leaves f) (the_row e) other)

  pub ask_left : (ask : StreamAsk) (o v : ℕ) → window_behind (dcp_frame (msg.StreamRequest ask) o v) h w ≡ w
  unfolding dcp_frame frame_row
  ask_left ask o v = let f : Frame = request_frame ask o v in window_left f h w (λ x e. subst (Leaves f) (the_row e) tt)

  pub seqno_left : (seq o v : ℕ) → window_behind (dcp_frame (msg.SeqnoAcknowledged seq) o v) h w ≡ w
  unfolding dcp_frame frame_row
  seqno_left seq o v = let f : Frame = frame_of_row row.SeqnoAcknowledged v o (to_be_bytes w64 seq) [] [] in window_left f h w (λ x e. subst (Leaves f) (the_row e) tt)

  -- so many bytes are acknowledged, where the connection is open
  pub bytes_left : (bytes o v : ℕ) → bytes < 2 ^ 32 → window_behind (dcp_frame (msg.BufferAcknowledgement bytes) o v) h w ≡ (if is_open h then room_acked bytes w else w)
  unfolding dcp_frame
  bytes_left bytes o v low = let f : Frame = frame_of_row row.BufferAcknowledgement v o (to_be_bytes w32 bytes) [] [] in ap (λ r. window_of f r h w) (message_back (msg.BufferAcknowledgement bytes) o v tt low)

  -- the window gets the size, where it is
  pub size_left : (size o v : ℕ) → size < 2 ^ 32 → is_open h ≡ true → window_behind (dcp_frame (msg.Control (codes "connection_buffer_size") (decimal size)) o v) h w ≡ room_sized size w
  unfolding dcp_frame
  size_left size o v low opens =
      let f : Frame = frame_of_row row.Control v o [] (codes "connection_buffer_size") (decimal size) in
      let l : length (decimal size) ≤ 10 = length-decimal-le 10 size (omega arith) (omega arith) (omega arith) in
      ap (λ r. window_of f r h w) (message_back (msg.Control (codes "connection_buffer_size") (decimal size)) o v (omega arith, omega (arith, l)) tt)
      ∙ ap (λ n. sized_window n w) (sized_open h opens)
    where
      sized_open : (x : Handshake) → is_open x ≡ true → sized x (decimal size) ≡ Some size
      sized_open shaken.Fresh e = cc
      sized_open (shaken.Open sync name) e = (sizes (decimal size) size).1 (refl, low)
