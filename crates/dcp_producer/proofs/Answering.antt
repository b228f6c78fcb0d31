-- what each answer keeps of a connection
use Rattle.std.proofs.Common.{◌≡◌, ℕ, Bool, true, false, List, refl, Option, Some, None, Result, Ok, Err}
use Rattle.std.specs.Prelude.{if◌then◌else◌, ◌==◌, ◌&&◌, not, is_some, codes, map}
use Rattle.std.specs.List.{list_any}
use Rattle.std.proofs.lemmas.Bool.{eqb-true}
use Rattle.std.specs.Str.{bytes_eq}
use Rattle.mcbp_frame.specs.declared.frame.Frame.{Frame}
use Rattle.mcbp_frame.specs.declared.frame.TheConstants.{RESPONSE}
use Rattle.mcbp_dcp.specs.declared.message.DcpFault.{DcpFault}
use Rattle.mcbp_dcp.specs.declared.message.DcpMsg.{DcpMsg}
use Rattle.mcbp_dcp.specs.declared.message.DcpMsg.TheVariants as msg
use Rattle.mcbp_dcp.specs.Messages.{read_of}
use Rattle.mcbp_dcp.specs.Rows.{dcp_opcodes}
use Rattle.vb_types.specs.declared.role.LogEntry.{LogEntry}
use Rattle.vb_types.specs.declared.status.Status.{Status}
use Rattle.vb_types.specs.declared.status.Status.TheVariants as status
use Rattle.vb_types.specs.declared.stream.AskAnswer.{AskAnswer}
use Rattle.vb_types.specs.declared.stream.AskAnswer.TheVariants as ask_answer
use Rattle.vb_types.specs.declared.stream.Place.{Place}
use Rattle.vb_types.specs.declared.stream.StreamAsk.{StreamAsk}
use Rattle.vb_calls.specs.declared.calls.VbAnswer.{VbAnswer}
use Rattle.vb_calls.specs.declared.calls.VbAnswer.TheVariants as answer
use Rattle.vb_calls.specs.declared.calls.VbCall.TheVariants as call
use Rattle.vb_calls.specs.declared.calls.VbReply.{VbReply}
use Rattle.vb_calls.specs.Programs.{Prog, Done, Call, AnyCall, Always}
use Rattle.flow_control.specs.declared.window.Window.{Window}
use Rattle.flow_control.specs.Windows.{with_acked}
use Rattle.dcp_producer.specs.declared.desk.Handshake.{Handshake}
use Rattle.dcp_producer.specs.Producers.{PlainStream, PlainProducer, Served, is_open, member_of, stream_at, with_opened, without_stream}
use Rattle.dcp_producer.specs.Serving.{status_sent, with_handshake, open_refusal, opened_unless, sized, sized_as, controlled, controlled_as, log_of_reply, high_of_reply, place_of_reply, ask_verdict, request_refusal, opens, next_stream, with_asked, with_granted, new_stream, stream_answered, opening_requested, refusal_requested, stream_request, stream_closed, closed_sent, log_given, log_sent, log_answered, fed_stream, weighed, counted_by, count_answered, count_requested, acknowledged, message_answered, row_answered, read_answered, frame_answered, heard, is_taken, response_heard}
use Rattle.dcp_producer.specs.Having.{NoneOf, IsStreamOf}
use Rattle.dcp_producer.proofs.Finding.{none_back, found_back}

not_some : (a : Bool) (o : Option PlainStream) → (a && not (is_some o)) ≡ true → o ≡ None
not_some true None is = refl
not_some false None is = refl
not_some true (Some x) is = absurd (cc is)
not_some false (Some x) is = absurd (cc is)

-- what holds of a connection, and behind each change of it that an answer may make
pub record Stays (P : PlainProducer → Type 0) (f : Frame) (end : PlainProducer) : Type 0 where
  pub same : P end
  pub shaken : (h : Handshake) → P (record end { handshake = h })
  pub window : (w : Window) → P (record end { window = w })
  pub asked : P (with_asked end)
  pub opened : (ask : StreamAsk) (sync : Bool) (from : Place) → NoneOf f.vb_or_status end.streams → P (with_opened (new_stream (next_stream end) f ask sync from) (with_asked end))
  pub taken : f.magic ≡ RESPONSE → P (record end { streams = map (heard f.opaque) end.streams })
  pub without : (stream : PlainStream) → IsStreamOf f.vb_or_status stream end.streams → P (without_stream stream.id end)

module _ (P : PlainProducer → Type 0) (f : Frame) (s : Served) (stays : Stays P f s.end) where
  abbrev pub Behind : Served → Type 0
  Behind t = P t.end

  abbrev Answers : Prog Served → Type 0
  Answers prog = Always AnyCall Behind prog

  status_so : (st : Status) (t : Served) → P t.end → P (status_sent f st t).end
  unfolding status_sent
  status_so st t so = so

  opened_so : (o : Option Status) → P (opened_unless o f s).end
  opened_so None = status_so status.Success (with_handshake s _) (stays.shaken _)
  opened_so (Some st) = status_so st s stays.same

  sized_so : (o : Option ℕ) → P (sized_as o f s).end
  sized_so None = status_so status.Einval s stays.same
  sized_so (Some size) = status_so status.Success (record s { end = record s.end { window = record s.end.window { size = size } } }) (stays.window (record s.end.window { size = size }))

  controlled_so : (o : Option Handshake) → P (controlled_as o f s).end
  controlled_so None = status_so status.Einval s stays.same
  controlled_so (Some set) = status_so status.Success (with_handshake s set) (stays.shaken set)

  control_so : (key value : List ℕ) (b : Bool) → P (if b then sized_as (sized s.end.handshake value) f s else controlled_as (controlled s.end.handshake key value) f s).end
  control_so key value true = sized_so (sized s.end.handshake value)
  control_so key value false = controlled_so (controlled s.end.handshake key value)

  granted_so : (ask : StreamAsk) → NoneOf f.vb_or_status s.end.streams → (from : Place) (verdict : AskAnswer) → P (with_granted (with_asked s.end) (next_stream s.end) f ask from verdict)
  granted_so ask none from ask_answer.Go = stays.opened ask _ from none
  granted_so ask none from (ask_answer.Roll to) = stays.asked
  granted_so ask none from (ask_answer.Refuse code) = stays.asked

  answered_so : (ask : StreamAsk) (t : Served) (log : List LogEntry) (high : ℕ) (verdict : AskAnswer) → P t.end → P (stream_answered f ask t log high verdict).end
  unfolding stream_answered
  answered_so ask t log high verdict it = it

  request_so : (ask : StreamAsk) (b : Bool) → opens s.end f.vb_or_status ask ≡ b → Answers (if b then opening_requested f ask s else refusal_requested f ask s)
  request_so ask true is =
      let none : NoneOf f.vb_or_status s.end.streams = none_back f.vb_or_status s.end.streams (not_some (not (is_some (request_refusal s.end ask))) (stream_at f.vb_or_status s.end.streams) is) in (
        tt,
        λ reply any.
            answered_so ask (record s { end = with_granted (with_asked s.end) (next_stream s.end) f ask (place_of_reply reply) (ask_verdict reply) }) (log_of_reply reply) (high_of_reply reply) (ask_verdict reply)
            (granted_so ask none (place_of_reply reply) (ask_verdict reply)),
      )
  request_so ask false is = (tt, λ reply any. answered_so ask s (log_of_reply reply) (high_of_reply reply) _ stays.same)

  asked_so : (ask : StreamAsk) → Answers (stream_request f ask s)
  unfolding stream_request
  asked_so ask = request_so ask (opens s.end f.vb_or_status ask) refl

  once_so : (prog : Prog Served) → Answers prog → (b : Bool) → Answers (if b then prog else Done (status_sent f status.Einval s))
  once_so prog so true = so
  once_so prog so false = status_so status.Einval s stays.same

  without_so : (stream : PlainStream) → IsStreamOf f.vb_or_status stream s.end.streams → P (closed_sent f stream.id s).end
  without_so stream there = status_so status.Success (record s { end = without_stream stream.id s.end }) (stays.without stream there)

  closing_by : (stream : PlainStream) → IsStreamOf f.vb_or_status stream s.end.streams → (b : Bool) → Answers (if b then Done (closed_sent f stream.id s) else Call stream.vb (call.CloseStream stream.id) (λ reply. Done (closed_sent f stream.id s)))
  closing_by stream there true = without_so stream there
  closing_by stream there false = (tt, λ reply any. without_so stream there)

  closing_so : (o : Option PlainStream) → stream_at f.vb_or_status s.end.streams ≡ o → Answers (stream_closed f s o)
  closing_so None none = status_so status.KeyEnoent s stays.same
  closing_so (Some stream) there = closing_by stream (found_back f.vb_or_status stream s.end.streams there) stream.ended

  log_so : (o : Option (List LogEntry)) → P (log_sent f s o).end
  log_so None = status_so status.Einval s stays.same
  log_so (Some log) = stays.same

  logged_so : (reply : Option VbReply) → P (log_answered f s reply).end
  logged_so None = status_so status.NotMyVbucket s stays.same
  logged_so (Some reply) = log_so (log_given reply.answer)

  counted_so : (member seq : ℕ) (reply : VbReply) (a : VbAnswer) → P (counted_by f member seq reply a s).end
  counted_so member seq reply (answer.Status st) = status_so st s stays.same
  counted_so member seq reply a = stays.same

  count_so : (member seq : ℕ) (reply : Option VbReply) → P (count_answered f member seq s reply).end
  count_so member seq None = status_so status.NotMyVbucket s stays.same
  count_so member seq (Some reply) = counted_so member seq reply reply.answer

  weighed_so : (seq : ℕ) (r : Result ℕ Status) → Answers (count_requested f seq s r)
  weighed_so seq (Err st) = status_so st s stays.same
  weighed_so seq (Ok member) = (tt, λ reply any. count_so member seq reply)

  acknowledged_so : (seq : ℕ) → Answers (acknowledged f seq s)
  unfolding acknowledged
  acknowledged_so seq =
      once_so (count_requested f seq s (weighed seq (fed_stream s.end.desk.stream (stream_at f.vb_or_status s.end.streams)) (member_of s.end.handshake)))
      (weighed_so seq (weighed seq (fed_stream s.end.desk.stream (stream_at f.vb_or_status s.end.streams)) (member_of s.end.handshake))) (is_open s.end.handshake)

  bytes_so : (bytes : ℕ) (b : Bool) → P (if b then record s { end = record s.end { window = with_acked bytes s.end.window } } else status_sent f status.Einval s).end
  bytes_so bytes true = stays.window (with_acked bytes s.end.window)
  bytes_so bytes false = status_so status.Einval s stays.same

  message_so : (m : DcpMsg) → Answers (message_answered f m s)
  message_so (msg.Open number flags name) = opened_so (open_refusal s.end.handshake flags)
  message_so (msg.Control key value) = control_so key value (bytes_eq key (codes "connection_buffer_size"))
  message_so (msg.StreamRequest ask) = asked_so ask
  message_so (msg.SeqnoAcknowledged seq) = acknowledged_so seq
  message_so (msg.BufferAcknowledgement bytes) = bytes_so bytes (is_open s.end.handshake)
  message_so msg.CloseStream = once_so (stream_closed f s (stream_at f.vb_or_status s.end.streams)) (closing_so (stream_at f.vb_or_status s.end.streams) refl) (is_open s.end.handshake)
  message_so msg.GetFailoverLog = once_so (Call f.vb_or_status call.Log (λ reply. Done (log_answered f s reply))) (tt, λ reply any. logged_so reply) (is_open s.end.handshake)
  message_so msg.Noop = status_so (if is_open s.end.handshake then status.Success else status.Einval) s stays.same
  message_so other = status_so status.Einval s stays.same

  row_so : (r : Result DcpMsg DcpFault) → Answers (row_answered f r s)
  row_so (Err fault) = status_so status.Einval s stays.same
  row_so (Ok m) = message_so m

  read_by : (r : Result DcpMsg DcpFault) (b : Bool) → Answers (if b then row_answered f r s else Done (status_sent f status.Einval s))
  read_by r true = row_so r
  read_by r false = status_so status.Einval s stays.same

  read_so : (o : Option (Result DcpMsg DcpFault)) → Answers (read_answered f o s)
  read_so None = status_so status.Einval s stays.same
  read_so (Some r) = read_by r (f.datatype == 0)

  response_so : f.magic ≡ RESPONSE → (b : Bool) → P (if b then record s { end = record s.end { streams = map (heard f.opaque) s.end.streams } } else s).end
  response_so is true = stays.taken is
  response_so is false = stays.same

  frame_by : (drops known : Bool) → (f.magic == RESPONSE) ≡ drops → Answers (if drops then Done (response_heard f s) else if known then read_answered f (read_of f) s else Done (status_sent f status.UnknownCommand s))
  frame_by true known is = response_so (eqb-true f.magic RESPONSE is) (is_taken f)
  frame_by false true is = read_so (read_of f)
  frame_by false false is = status_so status.UnknownCommand s stays.same

  pub stays_answered : Answers (frame_answered f s)
  unfolding frame_answered
  stays_answered = frame_by (f.magic == RESPONSE) (list_any (λ o. o == f.opcode) dcp_opcodes) refl
