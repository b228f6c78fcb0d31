-- a producer's frames: each stream that a vBucket has more is the connection's own, which it keeps until that is over
use Rattle.std.specs.Prelude.{if◌then◌else◌, ◌≡◌, ◌∷◌, ◌++◌, ◌⊎◌, ◌==◌, cond, map}
use Rattle.transcript_law.proofs.Words.{ℕ, [], codes, Bool, true, false, List, refl, ap, sym, ◌∙◌, subst, inl, inr, ⊎_elim, Option, Some, None, Result, Ok, Err, list_any, is_active, eqb-true, eqb-false, Frame, RESPONSE, Status, Plain, VbReply, Stream, States, StreamAsk, Verdict, Continue, Roll}
use Rattle.transcript_law.proofs.Words.{after, Done, Prog, Handshake, DcpMsg, PlainProducer, PlainStream, Served, LogEntry, AskAnswer, rule, open_refusal, open_outcome, judged_open, id_refusal, first_reason, is_ranged, new_stream, stream_at, with_vb_at, call_at, Call, VbCall}
use Rattle.transcript_law.proofs.invariant.OpenStreams.{AreKept, Among, heard_has, at_among, kept_asked, kept_opened, kept_over, kept_went, only_open, opened_has, without_has}
use Rattle.transcript_law.proofs.invariant.Unopened.{NoNew, OpensNone, closed_here, put_new, step_new}
use Rattle.transcript_law.specs.Feeding.{Has, HasIn, HasOpen, IsOpenAt}
use Rattle.dcp_producer.proofs.Kept.{heard_ids}
use Rattle.dcp_producer.specs.Producers.{is_open as is_shaken, is_sync, member_of, stream_at as stream_of_vb}
use Rattle.dcp_producer.specs.Serving.{heard, is_taken, response_heard, acknowledged, ask_verdict, close_requested, closed_sent, controlled, controlled_as, count_answered, count_requested, counted_by, fed_stream, frame_answered, log_answered, log_given, log_requested, log_sent, message_answered, next_stream, open_refusal as opening_refusal, opened_unless, opening_requested, opens, place_of_reply, read_answered, refusal_requested, new_stream as stream_of, row_answered, sized, sized_as, status_sent, stream_answered, stream_closed, stream_request, weighed, with_asked, with_granted}
use Rattle.std.specs.Str.{bytes_eq}
use Rattle.mcbp_dcp.specs.Messages.{read_of}
use Rattle.mcbp_dcp.specs.Rows.{dcp_opcodes}
use Rattle.mcbp_dcp.specs.declared.message.DcpFault.{DcpFault}
use Rattle.mcbp_dcp.specs.declared.message.DcpMsg.TheVariants as msg
use Rattle.vb_calls.specs.States.{states_step}
use Rattle.vb_calls.specs.declared.calls.VbAnswer.{VbAnswer}
use Rattle.vb_calls.specs.declared.calls.VbAnswer.TheVariants as answer
use Rattle.vb_calls.specs.declared.calls.VbCall.TheVariants as call
use Rattle.vb_types.specs.Statuses.{status_code}
use Rattle.vb_types.specs.declared.stream.Place.{Place}
use Rattle.vb_types.specs.declared.stream.Place.TheVariants as place

-- all streams of vBuckets are others', or this connection's own
abbrev pub AreOwned : (ℕ → ℕ → Type 0) → States → List PlainStream → Type 0
AreOwned others states streams = (v k : ℕ) → HasIn (states v) k → others v k ⊎ HasOpen v k streams

-- one more stream, at the end
has_more : (new : Stream) (k : ℕ) (ss : List Stream) → Has (ss ++ new ∷ []) k → Has ss k ⊎ (new.id ≡ k)
has_more new k [] h = ⊎_elim (λ e. inr e) (λ n. absurd n) h
has_more new k (s ∷ ss) h = ⊎_elim (λ e. inl (inl e)) (λ j. ⊎_elim (λ i. inl (inr i)) (λ e. inr e) (has_more new k ss j)) h

-- where none of a number is found, there is none
pub has_none : (i : ℕ) (ss : List Stream) → stream_at i ss ≡ None → (k : ℕ) → Has ss k → k ≡ i → ⊥
has_none i [] none k h e = absurd h
has_none i (s ∷ ss) none k h e = by (has_none i ss) (s.id == i) refl
  where
    by : (stream_at i ss ≡ None → (j : ℕ) → Has ss j → j ≡ i → ⊥) → (b : Bool) → (s.id == i) ≡ b → ⊥
    by rest true f = let z : Some s ≡ None = sym (ap (λ b. cond b (Some s) (stream_at i ss)) f) ∙ none in cc
    by rest false f = ⊎_elim (λ q. eqb-false s.id i f (q ∙ e)) (λ r. rest (sym (ap (λ b. cond b (Some s) (stream_at i ss)) f) ∙ none) k r e) h

module _ (others : ℕ → ℕ → Type 0) where
  abbrev pub Owned : States → List PlainStream → Type 0
  Owned = AreOwned others

  pub fewer : (states states' : States) (streams : List PlainStream) → NoNew states states' → Owned states streams → Owned states' streams
  fewer states states' streams less owned v k h = owned v k (less v k h)

  -- so it is with a connection
  abbrev pub Holds : States → PlainProducer → Type 0
  Holds states end = Owned states end.streams × AreKept end

  -- ---- a frame is answered

  abbrev Keeps : Prog Served → States → Type 0
  Keeps prog states = let x = after prog states in Holds x.0 x.1.end

  module _ (f : Frame) (s : Served) (states : States) (held : Holds states s.end) where
    either_keeps : (b : Bool) (x y : Prog Served) → Keeps x states → Keeps y states → Keeps (if b then x else y) states
    either_keeps true x y p q = p
    either_keeps false x y p q = q

    status_keeps : (st : Status) → Keeps (Done (status_sent f st s)) states
    unfolding status_sent
    status_keeps st = held

    open_keeps : (o : Option Status) → Keeps (Done (opened_unless o f s)) states
    unfolding status_sent
    open_keeps None = held
    open_keeps (Some st) = held

    control_keeps : (o : Option Handshake) → Keeps (Done (controlled_as o f s)) states
    unfolding status_sent
    control_keeps None = held
    control_keeps (Some set) = held

    size_keeps : (o : Option ℕ) → Keeps (Done (sized_as o f s)) states
    unfolding status_sent
    size_keeps None = held
    size_keeps (Some size) = held

    bytes_keep : (b : Bool) (end : PlainProducer) → Holds states end → Keeps (Done (if b then record s { end = end } else status_sent f Status.Einval s)) states
    bytes_keep true end same = same
    bytes_keep false end same = status_keeps Status.Einval

    -- a call that opens no stream, after which the connection is as before
    called_keeps : (v : ℕ) (c : VbCall) → OpensNone v c → (t : Served) → t.end ≡ s.end → Holds (states_step states v c).0 t.end
    called_keeps v c none t same = subst (Holds (states_step states v c).0) (sym same) (fewer states (states_step states v c).0 s.end.streams (step_new states v c none) held.0, held.1)

    counted_keeps : (member seq : ℕ) (reply : Option VbReply) → (count_answered f member seq s reply).end ≡ s.end
    unfolding status_sent
    counted_keeps member seq None = refl
    counted_keeps member seq (Some reply) = by reply.answer
      where
        by : (a : VbAnswer) → (counted_by f member seq reply a s).end ≡ s.end
        by (answer.Status st) = refl
        by other = refl

    count_keeps : (seq : ℕ) (o : Result ℕ Status) → Keeps (count_requested f seq s o) states
    count_keeps seq (Err st) = status_keeps st
    count_keeps seq (Ok member) =
        let step = states_step states f.vb_or_status (call.Ack member seq) in
        called_keeps f.vb_or_status (call.Ack member seq) tt (count_answered f member seq s step.1) (counted_keeps member seq step.1)

    ack_keeps : (seq : ℕ) → Keeps (acknowledged f seq s) states
    unfolding acknowledged
    ack_keeps seq =
        let weight : Result ℕ Status = weighed seq (fed_stream s.end.desk.stream (stream_of_vb f.vb_or_status s.end.streams)) (member_of s.end.handshake) in
        either_keeps (is_shaken s.end.handshake) (count_requested f seq s weight) (Done (status_sent f Status.Einval s)) (count_keeps seq weight) (status_keeps Status.Einval)

    -- a failover log
    log_keeps : Keeps (log_requested f s) states
    unfolding status_sent
    log_keeps =
        let step = states_step states f.vb_or_status call.Log in
        either_keeps (is_shaken s.end.handshake) (Call f.vb_or_status call.Log (λ reply. Done (log_answered f s reply))) (Done (status_sent f Status.Einval s))
        (called_keeps f.vb_or_status call.Log tt (log_answered f s step.1) (by step.1)) held
      where
        sent : (o : Option (List LogEntry)) → (log_sent f s o).end ≡ s.end
        sent None = refl
        sent (Some log) = refl

        by : (reply : Option VbReply) → (log_answered f s reply).end ≡ s.end
        by None = refl
        by (Some reply) = sent (log_given reply.answer)

    -- one of its streams is closed at its vBucket, and no more its own
    module _ (t : PlainStream) (there : Among t s.end.streams) where
      left_out : (states' : States) → NoNew states states' → ((v k : ℕ) → HasIn (states' v) k → k ≡ t.id → IsOpenAt v k t → ⊥) → Keeps (Done (closed_sent f t.id s)) states'
      unfolding status_sent
      left_out states' less gone = (
        λ v k h. ⊎_elim (λ o. inl o) (λ own. inr (without_has v k t.id s.end.streams (λ e. gone v k h e (only_open v k s.end.streams t held.1.rise there own e)) own)) (held.0 v k (less v k h)),
        kept_over s.end t.id held.1,
      )

      close_keeps : Keeps (stream_closed f s (Some t)) states
      close_keeps = by t.ended refl
        where
          by : (b : Bool) → t.ended ≡ b → Keeps (if b then Done (closed_sent f t.id s) else Call t.vb (call.CloseStream t.id) (λ reply. Done (closed_sent f t.id s))) states
          by true e = left_out states (λ v k h. h) (λ v k h q o. let z : true ≡ false = sym e ∙ o.2 in cc)
          by false e =
              let after_close : States = (states_step states t.vb (call.CloseStream t.id)).0 in
              left_out after_close (step_new states t.vb (call.CloseStream t.id) tt)
              (λ v k h q o. closed_here states t.vb t.id (subst (λ u. HasIn (after_close u) t.id) (sym o.0) (subst (HasIn (after_close v)) q h)))

    closing_keeps : Keeps (close_requested f s) states
    closing_keeps = either_keeps (is_shaken s.end.handshake) (stream_closed f s (stream_of_vb f.vb_or_status s.end.streams)) (Done (status_sent f Status.Einval s)) (by (stream_of_vb f.vb_or_status s.end.streams) refl) (status_keeps Status.Einval)
      where
        by : (o : Option PlainStream) → stream_of_vb f.vb_or_status s.end.streams ≡ o → Keeps (stream_closed f s o) states
        by None e = status_keeps Status.KeyEnoent
        by (Some t) e = close_keeps t (at_among f.vb_or_status s.end.streams t e)

    -- a request for a stream, by what the vBucket made of it
    module _ (ask : StreamAsk) where
      abbrev v : ℕ
      v = f.vb_or_status

      abbrev i : ℕ
      i = next_stream s.end

      abbrev sync : Bool
      sync = is_sync s.end.handshake

      -- under 0 none is opened
      zero_refused : (pv : Plain) → open_refusal pv 0 ask ≡ None → ⊥
      zero_refused pv = by (is_active pv.role) (stream_at 0 pv.streams)
        where
          by : (b : Bool) (o : Option Stream) → (if b then first_reason (id_refusal 0 o) (if is_ranged ask then None else Some Status.Erange) else Some Status.NotMyVbucket) ≡ None → ⊥
          by false o e = cc
          by true None e = cc
          by true (Some t) e = cc

      -- the vBucket as it was
      as_was : (pv : Plain) → states v ≡ Some pv → NoNew states (with_vb_at states v pv)
      as_was pv there = put_new states v pv (λ k h. subst (λ o. HasIn o k) (sym there) h)

      refused_new : NoNew states (states_step states v (call.OpenStream 0 ask sync)).0
      refused_new = by (states v) refl
        where
          refused : (pv : Plain) → states v ≡ Some pv → (o : Option Status) → open_refusal pv 0 ask ≡ o → NoNew states (with_vb_at states v (open_outcome o pv 0 ask sync).0)
          refused pv there (Some st) e = as_was pv there
          refused pv there None e = absurd (zero_refused pv e)

          by : (o : Option Plain) → states v ≡ o → NoNew states (call_at states v (call.OpenStream 0 ask sync) o).0
          by None e = λ w k h. h
          by (Some pv) e = refused pv e (open_refusal pv 0 ask) refl

      -- what it says makes this of the connection
      abbrev Came : States × Option VbReply → Type 0
      Came x = Holds x.0 (with_granted (with_asked s.end) i f ask (place_of_reply x.1) (ask_verdict x.1))

      -- what grants nothing
      denied : (from : Place) (said : AskAnswer) (states' : States) → (said ≡ AskAnswer.Go → ⊥) → NoNew states states' → Holds states' (with_granted (with_asked s.end) i f ask from said)
      denied from AskAnswer.Go states' none less = absurd (none refl)
      denied from (AskAnswer.Roll to) states' none less = (fewer states states' s.end.streams less held.0, kept_asked s.end held.1)
      denied from (AskAnswer.Refuse code) states' none less = (fewer states states' s.end.streams less held.0, kept_asked s.end held.1)

      module _ (pv : Plain) (there : states v ≡ Some pv) where
        abbrev more : Plain
        more = (judged_open Continue pv i ask sync).0

        abbrev own : PlainStream
        own = stream_of i f ask sync (place_of_reply (Some (judged_open Continue pv i ask sync).1))

        own_new : Owned (with_vb_at states v more) (s.end.streams ++ own ∷ [])
        own_new w k = by (w == v) refl
          where
            old : HasIn (states w) k → others w k ⊎ HasOpen w k (s.end.streams ++ own ∷ [])
            old h = ⊎_elim (λ o. inl o) (λ mine. inr (opened_has w k own s.end.streams (inl mine))) (held.0 w k h)

            by : (b : Bool) → (w == v) ≡ b → HasIn (if b then Some more else states w) k → others w k ⊎ HasOpen w k (s.end.streams ++ own ∷ [])
            by false e h = old h
            by true e h =
                let same : w ≡ v = eqb-true w v e in
                ⊎_elim (λ j. old (subst (λ u. HasIn (states u) k) (sym same) (subst (λ o. HasIn o k) (sym there) j))) (λ q. inr (opened_has w k own s.end.streams (inr (sym same, q, refl)))) (has_more (new_stream pv i ask sync) k pv.streams h)

        by_rule : (r : Verdict) → Came (with_vb_at states v (judged_open r pv i ask sync).0, Some (judged_open r pv i ask sync).1)
        by_rule Continue = (own_new, kept_opened s.end own refl held.1)
        by_rule (Roll to) = denied place.Memory (AskAnswer.Roll to) (with_vb_at states v pv) (λ e. cc) (as_was pv there)

        by_refusal : (o : Option Status) → Came (with_vb_at states v (open_outcome o pv i ask sync).0, Some (open_outcome o pv i ask sync).1)
        by_refusal (Some st) = denied place.Memory (AskAnswer.Refuse (status_code st)) (with_vb_at states v pv) (λ q. cc) (as_was pv there)
        by_refusal None = by_rule (rule pv.log pv.position.at ask)

      by_vb : (o : Option Plain) → states v ≡ o → Came (call_at states v (call.OpenStream i ask sync) o)
      by_vb None e = denied place.Memory (AskAnswer.Refuse (status_code Status.NotMyVbucket)) states (λ q. cc) (λ w k h. h)
      by_vb (Some pv) e = by_refusal pv e (open_refusal pv i ask)

      request_keeps : Keeps (stream_request f ask s) states
      unfolding stream_request stream_answered
      request_keeps = either_keeps (opens s.end v ask) (opening_requested f ask s) (refusal_requested f ask s) (by_vb (states v) refl)
          (fewer states (states_step states v (call.OpenStream 0 ask sync)).0 s.end.streams refused_new held.0, held.1)

    message_keeps : (m : DcpMsg) → Keeps (message_answered f m s) states
    message_keeps (msg.Open number flags name) = open_keeps (opening_refusal s.end.handshake flags)
    message_keeps (msg.Control key value) = control_by (bytes_eq key (codes "connection_buffer_size"))
      where
        control_by : (b : Bool) → Keeps (Done (if b then sized_as (sized s.end.handshake value) f s else controlled_as (controlled s.end.handshake key value) f s)) states
        control_by true = size_keeps (sized s.end.handshake value)
        control_by false = control_keeps (controlled s.end.handshake key value)
    message_keeps (msg.BufferAcknowledgement bytes) = bytes_keep _ _ held
    message_keeps (msg.StreamRequest ask) = request_keeps ask
    message_keeps (msg.SeqnoAcknowledged seq) = ack_keeps seq
    message_keeps msg.CloseStream = closing_keeps
    message_keeps msg.GetFailoverLog = log_keeps
    message_keeps msg.Noop = status_keeps _
    message_keeps other = status_keeps Status.Einval

    read_keeps : (o : Option (Result DcpMsg DcpFault)) → Keeps (read_answered f o s) states
    read_keeps None = status_keeps Status.Einval
    read_keeps (Some read) = either_keeps (f.datatype == 0) (row_answered f read s) (Done (status_sent f Status.Einval s)) (by read) (status_keeps Status.Einval)
      where
        by : (read : Result DcpMsg DcpFault) → Keeps (row_answered f read s) states
        by (Err fault) = status_keeps Status.Einval
        by (Ok m) = message_keeps m

    -- a response is heard by streams, which are open as they were
    response_keeps : (b : Bool) → Keeps (Done (if b then record s { end = record s.end { streams = map (heard f.opaque) s.end.streams } } else s)) states
    response_keeps true = (λ v k h. ⊎_elim (λ o. inl o) (λ own. inr (heard_has v k f.opaque s.end.streams own)) (held.0 v k h), kept_went s.end (map (heard f.opaque) s.end.streams) (heard_ids f.opaque s.end.streams) held.1)
    response_keeps false = held

    pub frame_keeps : Keeps (frame_answered f s) states
    unfolding frame_answered
    frame_keeps = either_keeps (f.magic == RESPONSE) (Done (response_heard f s)) (if list_any (λ o. o == f.opcode) dcp_opcodes then read_answered f (read_of f) s else Done (status_sent f Status.UnknownCommand s)) (response_keeps (is_taken f))
        (either_keeps (list_any (λ o. o == f.opcode) dcp_opcodes) (read_answered f (read_of f) s) (Done (status_sent f Status.UnknownCommand s)) (read_keeps (read_of f)) (status_keeps Status.UnknownCommand))
