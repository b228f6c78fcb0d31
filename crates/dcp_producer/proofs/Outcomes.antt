-- what may come of a frame that a connection answers, case by case, and which calls are made for it, by what vBuckets may reply
use Rattle.std.proofs.Common.{◌≡◌, ◌≢◌, ℕ, Bool, true, false, List, refl, sym, ◌∙◌, subst, inl, inr, arith, Option, Some, None, Result, Ok, Err}
use Rattle.std.proofs.lemmas.Bool.{eqb-true, false≢true}
use Rattle.std.proofs.lemmas.Bool.Decides.{nat_tests}
use Rattle.std.specs.Prelude.{if◌then◌else◌, ◌==◌, ◌||◌, codes, map, nat_lt}
use Rattle.std.specs.Str.{bytes_eq}
use Rattle.std.specs.List.{list_any}
use Rattle.mcbp_frame.specs.declared.frame.Frame.{Frame}
use Rattle.mcbp_frame.specs.declared.frame.TheConstants.{RESPONSE}
use Rattle.mcbp_dcp.specs.DcpFrames.{dcp_frame}
use Rattle.mcbp_dcp.specs.declared.message.DcpMsg.{DcpMsg}
use Rattle.mcbp_dcp.specs.declared.message.DcpMsg.TheVariants as msg
use Rattle.mcbp_dcp.specs.declared.message.DcpFault.{DcpFault}
use Rattle.mcbp_dcp.specs.Messages.{read_of}
use Rattle.mcbp_dcp.specs.Rows.{dcp_opcodes}
use Rattle.vb_events.specs.declared.event.StreamName.{StreamName}
use Rattle.vb_types.specs.declared.role.LogEntry.{LogEntry}
use Rattle.vb_types.specs.declared.status.Status.{Status}
use Rattle.vb_types.specs.declared.status.Status.TheVariants as status
use Rattle.vb_types.specs.declared.stream.AskAnswer.{AskAnswer}
use Rattle.vb_types.specs.declared.stream.AskAnswer.TheVariants as ask_answer
use Rattle.vb_types.specs.declared.stream.Place.{Place}
use Rattle.vb_types.specs.declared.stream.StreamAsk.{StreamAsk}
use Rattle.vb_calls.specs.declared.calls.VbAnswer.{VbAnswer}
use Rattle.vb_calls.specs.declared.calls.VbAnswer.TheVariants as answer
use Rattle.vb_calls.specs.declared.calls.VbCall.{VbCall}
use Rattle.vb_calls.specs.declared.calls.VbCall.TheVariants as call
use Rattle.vb_calls.specs.declared.calls.VbReply.{VbReply}
use Rattle.vb_calls.specs.Programs.{Prog, Done, Call, AlwaysWith}
use Rattle.flow_control.specs.Windows.{with_acked}
use Rattle.dcp_producer.specs.declared.desk.Handshake.{Handshake}
use Rattle.dcp_producer.specs.declared.desk.Handshake.TheVariants as handshake
use Rattle.dcp_producer.specs.Clients.{IsRead, IsSilent}
use Rattle.dcp_producer.specs.Having.{IsOpened}
use Rattle.dcp_producer.specs.Producers.{PlainStream, PlainProducer, Served, is_client, is_open, member_of, stream_at}
use Rattle.dcp_producer.specs.Serving.{with_frame, status_sent, place_of_reply, open_refusal, opened_unless, sized, sized_as, controlled, controlled_as, log_of_reply, high_of_reply, ask_verdict, request_refusal, opens, next_stream, verdict_with, with_asked, with_granted, stream_answered, opening_requested, refusal_requested, stream_request, stream_closed, closed_sent, log_given, log_sent, log_answered, fed_stream, weighed, counted_with, counted_by, count_answered, count_requested, acknowledged, message_answered, row_answered, read_answered, frame_answered, heard, is_taken, response_heard}
use Rattle.dcp_producer.proofs.Finding.{found_back}

-- the calls that are made for a frame, at the vBucket that it names; those of a client's connection are no acknowledgements
pub record Calls (calls : ℕ → VbCall → Type 0) (f : Frame) (name : StreamName) : Type 0 where
  pub opens : (id : ℕ) (ask : StreamAsk) (sync : Bool) → calls f.vb_or_status (call.OpenStream id ask sync)
  pub closes : (stream : PlainStream) → stream.vb ≡ f.vb_or_status → calls stream.vb (call.CloseStream stream.id)
  pub counts : is_client name ≡ false → (member seq : ℕ) → calls f.vb_or_status (call.Ack member seq)
  pub logs : calls f.vb_or_status call.Log

-- what holds of the connection in each case: it had no answer, and behind a response its streams may be further, a status, the answer to a request for a stream, a log, or it was counted
pub record Outcomes (replies : VbCall → Option VbReply → Type 0) (R : Served → Type 0) (f : Frame) (s : Served) : Type 0 where
  pub dropped : f.magic ≡ RESPONSE → (streams : List PlainStream) → R (record s { end = record s.end { streams = streams } })
  pub taken : (bytes : ℕ) → IsRead f (msg.BufferAcknowledgement bytes) → IsOpened s → R (record s { end = record s.end { window = with_acked bytes s.end.window } })
  pub refused : (IsSilent f s → ⊥) → (st : Status) (end : PlainProducer) → end.desk ≡ s.end.desk → R (status_sent f st (record s { end = end }))
  pub asked : (ask : StreamAsk) (id : ℕ) (sync : Bool) (reply : Option VbReply) (own : Option Status) (end : PlainProducer) → IsRead f (msg.StreamRequest ask) → replies (call.OpenStream id ask sync) reply
      → end.desk ≡ s.end.desk → R (stream_answered f ask (record s { end = end }) (log_of_reply reply) (high_of_reply reply) (verdict_with own (ask_verdict reply)))
  pub logged : (reply : VbReply) (log : List LogEntry) → IsRead f msg.GetFailoverLog → replies call.Log (Some reply) → reply.answer ≡ answer.Logged log
      → R (with_frame s (dcp_frame (msg.LogAnswer 0 log) f.opaque 0))
  pub counted : (member seq : ℕ) (reply : VbReply) → is_client s.end.desk.stream ≡ false → IsRead f (msg.SeqnoAcknowledged seq) → replies (call.Ack member seq) (Some reply)
      → R (counted_with f member seq reply s)

-- ---- who has an answer

-- the one message that may have none
abbrev IsOfBytes : DcpMsg → Type 0
IsOfBytes (msg.BufferAcknowledgement bytes) = Unit {0}
IsOfBytes other = ⊥

read_once : (m n : DcpMsg) → ◌≡◌ {A = Option (Result DcpMsg DcpFault)} (Some (Ok m)) (Some (Ok n)) → m ≡ n
read_once m n is = cc is

module _ (f : Frame) (s : Served) where
  -- an answer is no request
  pub loud_other : (f.magic == RESPONSE) ≡ false → ((bytes : ℕ) → IsRead f (msg.BufferAcknowledgement bytes) → IsOpened s → ⊥) → IsSilent f s → ⊥
  loud_other asks none (inl is) = let e : (f.magic == RESPONSE) ≡ true = grind (arith, nat_tests, is) in false≢true (sym asks ∙ e)
  loud_other asks none (inr (bytes, read, opened)) = none bytes read opened

  pub loud_message : (m : DcpMsg) → IsRead f m → (IsOfBytes m → ⊥) → IsSilent f s → ⊥
  loud_message m read other (inl is) = read.0.0 is
  loud_message m read other (inr (bytes, again, opened)) = other (subst IsOfBytes (read_once (msg.BufferAcknowledgement bytes) m (sym again.2 ∙ read.2)) tt)

  fresh_of : (h : Handshake) → is_open h ≡ false → h ≡ handshake.Fresh
  fresh_of handshake.Fresh is = refl
  fresh_of (handshake.Open sync name) is = absurd (false≢true (sym is))

  opened_of : (h : Handshake) → is_open h ≡ true → h ≡ handshake.Fresh → ⊥
  opened_of handshake.Fresh is fresh = false≢true is
  opened_of (handshake.Open sync name) is fresh = absurd (cc fresh)

module _ (replies : VbCall → Option VbReply → Type 0) (calls : ℕ → VbCall → Type 0) (R : Served → Type 0) (f : Frame) (s : Served) (mine : Calls calls f s.end.desk.stream) (outcomes : Outcomes replies R f s) where
  abbrev Serves : Prog Served → Type 0
  Serves prog = AlwaysWith replies calls R prog

  either_serves : (b : Bool) (x y : Prog Served) → (b ≡ true → Serves x) → (b ≡ false → Serves y) → Serves (if b then x else y)
  either_serves true x y p q = p refl
  either_serves false x y p q = q refl

  -- ---- frames that ask, and are answered in any case

  module _ (loud : IsSilent f s → ⊥) where
    status_so : (st : Status) → R (status_sent f st s)
    status_so st = outcomes.refused loud st s.end refl

    open_so : (o : Option Status) → R (opened_unless o f s)
    open_so None = outcomes.refused loud status.Success _ refl
    open_so (Some st) = status_so st

    sized_so : (o : Option ℕ) → R (sized_as o f s)
    sized_so None = status_so status.Einval
    sized_so (Some size) = outcomes.refused loud status.Success _ refl

    controlled_so : (o : Option Handshake) → R (controlled_as o f s)
    controlled_so None = status_so status.Einval
    controlled_so (Some set) = outcomes.refused loud status.Success _ refl

    control_so : (key value : List ℕ) (b : Bool) → R (if b then sized_as (sized s.end.handshake value) f s else controlled_as (controlled s.end.handshake key value) f s)
    control_so key value true = sized_so (sized s.end.handshake value)
    control_so key value false = controlled_so (controlled s.end.handshake key value)

    once_so : (prog : Prog Served) → Serves prog → Serves (if is_open s.end.handshake then prog else Done (status_sent f status.Einval s))
    once_so prog so = either_serves (is_open s.end.handshake) prog (Done (status_sent f status.Einval s)) (λ is. so) (λ is. status_so status.Einval)

    -- CLOSE_STREAM
    without_so : (id : ℕ) → R (closed_sent f id s)
    without_so id = outcomes.refused loud status.Success _ refl

    closing_so : (o : Option PlainStream) → stream_at f.vb_or_status s.end.streams ≡ o → Serves (stream_closed f s o)
    closing_so None none = status_so status.KeyEnoent
    closing_so (Some stream) there = either_serves stream.ended (Done (closed_sent f stream.id s)) (Call stream.vb (call.CloseStream stream.id) (λ reply. Done (closed_sent f stream.id s)))
        (λ is. without_so stream.id) (λ is. (mine.closes stream (found_back f.vb_or_status stream s.end.streams there).of, λ reply may. without_so stream.id))

    -- GET_FAILOVER_LOG
    log_so : IsRead f msg.GetFailoverLog → (reply : VbReply) → replies call.Log (Some reply) → (a : VbAnswer) → reply.answer ≡ a → R (log_sent f s (log_given a))
    log_so read reply may (answer.Logged log) is = outcomes.logged reply log read may is
    log_so read reply may other is = status_so status.Einval

    logged_so : IsRead f msg.GetFailoverLog → (reply : Option VbReply) → replies call.Log reply → R (log_answered f s reply)
    logged_so read None may = status_so status.NotMyVbucket
    logged_so read (Some reply) may = log_so read reply may reply.answer refl

    -- SEQNO_ACKNOWLEDGED
    module _ (seq : ℕ) (read : IsRead f (msg.SeqnoAcknowledged seq)) where
      counted_so : (member : ℕ) → is_client s.end.desk.stream ≡ false → (reply : VbReply) → replies (call.Ack member seq) (Some reply) → (a : VbAnswer) → R (counted_by f member seq reply a s)
      counted_so member link reply may (answer.Status st) = status_so st
      counted_so member link reply may other = outcomes.counted member seq reply link read may

      count_so : (member : ℕ) → is_client s.end.desk.stream ≡ false → (reply : Option VbReply) → replies (call.Ack member seq) reply → R (count_answered f member seq s reply)
      count_so member link None may = status_so status.NotMyVbucket
      count_so member link (Some reply) may = counted_so member link reply may reply.answer

      -- what is fed is a link's
      fed_link : (n : StreamName) (o : Option PlainStream) (t : PlainStream) → fed_stream n o ≡ Some t → is_client n ≡ false
      fed_link n None t is = absurd (cc is)
      fed_link n (Some stream) t is = by (is_client n) is
        where
          by : (b : Bool) → (if b || stream.ended then None else Some stream) ≡ Some t → b ≡ false
          by true is = absurd (cc is)
          by false is = refl

      weighed_so : (o : Option PlainStream) (m : Option ℕ) → fed_stream s.end.desk.stream (stream_at f.vb_or_status s.end.streams) ≡ o → Serves (count_requested f seq s (weighed seq o m))
      weighed_so None m fed = status_so status.NotSupported
      weighed_so (Some stream) None fed = status_so status.Einval
      weighed_so (Some stream) (Some member) fed = by (nat_lt stream.reached seq)
        where
          by : (b : Bool) → Serves (count_requested f seq s (if b then Err status.Erange else Ok member))
          by true = status_so status.Erange
          by false =
              let link : is_client s.end.desk.stream ≡ false = fed_link s.end.desk.stream (stream_at f.vb_or_status s.end.streams) stream fed in
              (mine.counts link member seq, λ reply may. count_so member link reply may)

      acknowledged_so : Serves (acknowledged f seq s)
      unfolding acknowledged
      acknowledged_so =
          once_so (count_requested f seq s (weighed seq (fed_stream s.end.desk.stream (stream_at f.vb_or_status s.end.streams)) (member_of s.end.handshake)))
          (weighed_so (fed_stream s.end.desk.stream (stream_at f.vb_or_status s.end.streams)) (member_of s.end.handshake) refl)

  -- ---- a request for a stream

  module _ (ask : StreamAsk) (read : IsRead f (msg.StreamRequest ask)) where
    granted_desk : (end : PlainProducer) (id : ℕ) (from : Place) (said : AskAnswer) → (with_granted end id f ask from said).desk ≡ end.desk
    granted_desk end id from ask_answer.Go = refl
    granted_desk end id from (ask_answer.Roll to) = refl
    granted_desk end id from (ask_answer.Refuse code) = refl

    request_so : Serves (stream_request f ask s)
    unfolding stream_request
    request_so = either_serves (opens s.end f.vb_or_status ask) (opening_requested f ask s) (refusal_requested f ask s)
        (λ is. (
          mine.opens _ ask _,
          λ reply may. outcomes.asked ask _ _ reply None (with_granted (with_asked s.end) (next_stream s.end) f ask (place_of_reply reply) (ask_verdict reply)) read may
              (granted_desk (with_asked s.end) (next_stream s.end) (place_of_reply reply) (ask_verdict reply)),
        ))
        (λ is. (mine.opens 0 ask _, λ reply may. outcomes.asked ask _ _ reply (request_refusal s.end ask) s.end read may refl))

  -- ---- each message

  bytes_so : (bytes : ℕ) → IsRead f (msg.BufferAcknowledgement bytes) → Serves (message_answered f (msg.BufferAcknowledgement bytes) s)
  bytes_so bytes read = by (is_open s.end.handshake) refl
    where
      by : (b : Bool) → is_open s.end.handshake ≡ b → R (if b then record s { end = record s.end { window = with_acked bytes s.end.window } } else status_sent f status.Einval s)
      by true is = outcomes.taken bytes read (opened_of f s s.end.handshake is)
      by false is = outcomes.refused silent status.Einval s.end refl
        where
          silent : IsSilent f s → ⊥
          silent (inl answers) = read.0.0 answers
          silent (inr (more, again, opened)) = opened (fresh_of f s s.end.handshake is)

  message_so : (m : DcpMsg) → IsRead f m → Serves (message_answered f m s)
  message_so (msg.Open number flags name) read = open_so (loud_message f s _ read (λ no. no)) (open_refusal s.end.handshake flags)
  message_so (msg.Control key value) read = control_so (loud_message f s _ read (λ no. no)) key value (bytes_eq key (codes "connection_buffer_size"))
  message_so (msg.StreamRequest ask) read = request_so ask read
  message_so (msg.SeqnoAcknowledged seq) read = acknowledged_so (loud_message f s _ read (λ no. no)) seq read
  message_so (msg.BufferAcknowledgement bytes) read = bytes_so bytes read
  message_so msg.CloseStream read =
      let loud = loud_message f s msg.CloseStream read (λ no. no) in
      once_so loud (stream_closed f s (stream_at f.vb_or_status s.end.streams)) (closing_so loud (stream_at f.vb_or_status s.end.streams) refl)
  message_so msg.GetFailoverLog read =
      let loud = loud_message f s msg.GetFailoverLog read (λ no. no) in
      once_so loud (Call f.vb_or_status call.Log (λ reply. Done (log_answered f s reply))) (mine.logs, λ reply may. logged_so loud read reply may)
  message_so msg.Noop read = status_so (loud_message f s msg.Noop read (λ no. no)) (if is_open s.end.handshake then status.Success else status.Einval)
  message_so (msg.StreamEnd reason) read = status_so (loud_message f s _ read (λ no. no)) status.Einval
  message_so (msg.SnapshotMarker start end flags) read = status_so (loud_message f s _ read (λ no. no)) status.Einval
  message_so (msg.Mutation change) read = status_so (loud_message f s _ read (λ no. no)) status.Einval
  message_so (msg.Deletion change) read = status_so (loud_message f s _ read (λ no. no)) status.Einval
  message_so (msg.Prepare change) read = status_so (loud_message f s _ read (λ no. no)) status.Einval
  message_so (msg.Commit change) read = status_so (loud_message f s _ read (λ no. no)) status.Einval
  message_so (msg.Abort change) read = status_so (loud_message f s _ read (λ no. no)) status.Einval
  message_so (msg.SetVbucketState role) read = status_so (loud_message f s _ read (λ no. no)) status.Einval
  message_so (msg.OpenAnswer code) read = status_so (loud_message f s _ read (λ no. no)) status.Einval
  message_so (msg.ControlAnswer code) read = status_so (loud_message f s _ read (λ no. no)) status.Einval
  message_so (msg.StreamAnswer said) read = status_so (loud_message f s _ read (λ no. no)) status.Einval
  message_so (msg.CloseAnswer code) read = status_so (loud_message f s _ read (λ no. no)) status.Einval
  message_so (msg.NoopAnswer code) read = status_so (loud_message f s _ read (λ no. no)) status.Einval
  message_so (msg.LogAnswer code log) read = status_so (loud_message f s _ read (λ no. no)) status.Einval
  message_so (msg.StateAnswer code) read = status_so (loud_message f s _ read (λ no. no)) status.Einval

  -- ---- each frame

  module _ (asks : (f.magic == RESPONSE) ≡ false) where
    is_request : f.magic ≢ RESPONSE
    is_request is = let e : (f.magic == RESPONSE) ≡ true = grind (arith, nat_tests, is) in false≢true (sym asks ∙ e)

    -- it is read as no acknowledgement of bytes
    einval_so : ((bytes : ℕ) → IsRead f (msg.BufferAcknowledgement bytes) → ⊥) → R (status_sent f status.Einval s)
    einval_so none = status_so (loud_other f s asks (λ bytes read opened. none bytes read)) status.Einval

    module _ (known : list_any (λ o. o == f.opcode) dcp_opcodes ≡ true) where
      row_so : (r : Result DcpMsg DcpFault) → read_of f ≡ Some r → f.datatype ≡ 0 → Serves (row_answered f r s)
      row_so (Ok m) is none = message_so m ((is_request, known), none, is)
      row_so (Err fault) is none = einval_so (λ bytes read. let e : ◌≡◌ {A = Option (Result DcpMsg DcpFault)} (Some (Err fault)) (Some (Ok (msg.BufferAcknowledgement bytes))) = sym is ∙ read.2 in absurd (cc e))

      read_so : (o : Option (Result DcpMsg DcpFault)) → read_of f ≡ o → Serves (read_answered f o s)
      read_so None is = einval_so (λ bytes read. let e : ◌≡◌ {A = Option (Result DcpMsg DcpFault)} None (Some (Ok (msg.BufferAcknowledgement bytes))) = sym is ∙ read.2 in absurd (cc e))
      read_so (Some r) is = either_serves (f.datatype == 0) (row_answered f r s) (Done (status_sent f status.Einval s))
          (λ none. row_so r is (eqb-true f.datatype 0 none))
          (λ some. einval_so (λ bytes read. let none = read.1 in let e : (f.datatype == 0) ≡ true = grind (arith, nat_tests, none) in false≢true (sym some ∙ e)))

    unknown_so : list_any (λ o. o == f.opcode) dcp_opcodes ≡ false → R (status_sent f status.UnknownCommand s)
    unknown_so unknown = status_so (loud_other f s asks (λ bytes read opened. false≢true (sym unknown ∙ read.0.1))) status.UnknownCommand

  response_so : f.magic ≡ RESPONSE → (b : Bool) → R (if b then record s { end = record s.end { streams = map (heard f.opaque) s.end.streams } } else s)
  response_so is true = outcomes.dropped is (map (heard f.opaque) s.end.streams)
  response_so is false = outcomes.dropped is s.end.streams

  pub frame_comes : Serves (frame_answered f s)
  unfolding frame_answered
  frame_comes =
      either_serves (f.magic == RESPONSE) (Done (response_heard f s)) (if list_any (λ o. o == f.opcode) dcp_opcodes then read_answered f (read_of f) s else Done (status_sent f status.UnknownCommand s))
      (λ is. response_so (eqb-true f.magic RESPONSE is) (is_taken f))
      (λ asks. either_serves (list_any (λ o. o == f.opcode) dcp_opcodes) (read_answered f (read_of f) s) (Done (status_sent f status.UnknownCommand s))
      (λ known. read_so asks known (read_of f) refl) (unknown_so asks))
