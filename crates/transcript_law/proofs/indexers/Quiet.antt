-- the answers of a client's producer of which no line tells: each vBucket is as it was, and so are the streams
use Rattle.std.specs.Prelude.{◌≡◌, ◌⊎◌, ◌==◌, ◌||◌, if◌then◌else◌}
use Rattle.std.specs.List.{list_any}
use Rattle.std.specs.Str.{bytes_eq}
use Rattle.transcript_law.proofs.Words.{ℕ, Bool, true, false, List, [], refl, sym, ap, ◌∙◌, subst, inl, inr, Option, Some, None, Result, Ok, Err, eq-eqb, eqb-true, ne_eqb, Status, Role, Frame, RESPONSE, LogEntry, is_some, Done, Prog, Call, Handshake, DcpMsg, PlainProducer, PlainStream, States, Plain, after, begun, with_vb_at, call_at, codes, is_name, option_map}
use Rattle.client_session.specs.Serving.{is_dcp}
use Rattle.dcp_producer.specs.Producers.{Served, is_client, is_open, member_of, stream_at as kept_at}
use Rattle.dcp_producer.specs.Sizes.{size_of}
use Rattle.dcp_producer.specs.declared.desk.Named.{Named}
use Rattle.dcp_producer.specs.Serving.{response_heard, as_before, flag_of, named_by, controlled, controlled_as, count_requested, fed_stream, log_answered, log_sent, message_answered, open_refusal, opened_unless, read_answered, row_answered, sized, sized_as, weighed, with_handshake}
unfoldable use Rattle.dcp_producer.specs.Serving.{acknowledged, frame_answered, status_sent}
use Rattle.flow_control.specs.Windows.{with_acked}
use Rattle.mcbp_dcp.specs.Messages.{read_of}
use Rattle.mcbp_dcp.specs.Rows.{dcp_opcodes}
use Rattle.mcbp_dcp.specs.declared.message.DcpFault.{DcpFault}
use Rattle.mcbp_dcp.specs.declared.message.DcpMsg.TheVariants as msg
use Rattle.transcript_law.proofs.{answers.Messages.{IsAnswerTo, answer_as, bytes_want, fresh_wants, log_answer_to, message_wants, status_to}, answers.Statuses.{alone, alone_as, control_fresh, control_is, once_open, open_is, set_status, size_fresh, size_is, status_if}, indexers.Flows.{other_flows, size_flows}, indexers.Setting.{SIZE, control_sets, kept_or, open_as, open_sets, opened_as, size_sets}, invariant.ClientsTold.{setup_of}}
use Rattle.transcript_law.specs.{ClientFrames.{ask_by, is_close, message_of, ok_of, set_by}, LawfulMessages.{FitsMessage, FitsOnceOpen, FitsOpen, IsStatus, Moment, control_status, open_status}, Questions.{is_acknowledgement, wants_answer, window_by}, StreamLaws.{IsIfKnown}, StreamsTold.{ClientStream}}
use Rattle.dcp_producer.specs.Serving.{status_frame}
use Rattle.mcbp_dcp.specs.DcpFrames.{dcp_frame}
use Rattle.mcbp_frame.specs.Spelling.{spelling}
use Rattle.vb_calls.specs.declared.calls.VbCall.TheVariants as call
use Rattle.vb_types.specs.Statuses.{status_code}

-- ---- what a frame that was handed up says

-- nothing that is known, or a message
abbrev pub Says : Frame → Served → Type 0
Says f s = ((message_of f ≡ None) × (frame_answered f s ≡ Done (status_sent f Status.Einval s))) ⊎ ((m : DcpMsg) × (message_of f ≡ Some m) × (frame_answered f s ≡ message_answered f m s))

pub says : (f : Frame) (s : Served) → (f.magic == RESPONSE) ≡ false → is_dcp f.opcode ≡ true → Says f s
unfolding frame_answered
says f s asks dcp = by (f.datatype == 0) (read_of f) refl refl
  where
    reads : frame_answered f s ≡ read_answered f (read_of f) s
    reads = ap (λ b. if b then Done (response_heard f s) else if list_any (λ o. o == f.opcode) dcp_opcodes then read_answered f (read_of f) s else Done (status_sent f Status.UnknownCommand s)) asks
        ∙ ap (λ b. if b then read_answered f (read_of f) s else Done (status_sent f Status.UnknownCommand s)) dcp

    so : (b : Bool) (o : Option (Result DcpMsg DcpFault)) → (f.datatype == 0) ≡ b → read_of f ≡ o → message_of f ≡ (if b then ok_of o else None)
    so b o e g = (λ i. if e i then ok_of (g i) else None)

    by : (b : Bool) (o : Option (Result DcpMsg DcpFault)) → (f.datatype == 0) ≡ b → read_of f ≡ o → Says f s
    by true None e g = inl (so true None e g, reads ∙ ap (λ o. read_answered f o s) g)
    by false None e g = inl (so false None e g, reads ∙ ap (λ o. read_answered f o s) g)
    by false (Some read) e g = inl (so false (Some read) e g, reads ∙ ap (λ o. read_answered f o s) g ∙ ap (λ b. if b then row_answered f read s else Done (status_sent f Status.Einval s)) e)
    by true (Some (Err fault)) e g = inl (so true (Some (Err fault)) e g, reads ∙ ap (λ o. read_answered f o s) g ∙ ap (λ b. if b then row_answered f (Err fault) s else Done (status_sent f Status.Einval s)) e)
    by true (Some (Ok m)) e g = inr (m, so true (Some (Ok m)) e g, reads ∙ ap (λ o. read_answered f o s) g ∙ ap (λ b. if b then row_answered f (Ok m) s else Done (status_sent f Status.Einval s)) e)

-- ---- quiet answers

-- so a producer answered a frame that says this, and the answer fits that
pub record Quietly (Fits : Option DcpMsg → Frame → Type 0) (f : Frame) (m : Option DcpMsg) (states : States) (p : PlainProducer) (x : States × Served) : Type 0 where
  pub vbs : (q : ℕ) → x.0 q ≡ states q
  pub lines : x.1.events ≡ []
  pub answers : IsAnswerTo (Fits m) f (wants_answer (setup_of p.handshake) f) x.1.out
  pub desk : x.1.end.desk ≡ p.desk
  pub asked : x.1.end.asked ≡ p.asked
  pub streams : x.1.end.streams ≡ p.streams
  pub sets : set_by m (setup_of p.handshake) ≡ setup_of x.1.end.handshake
  pub flows : window_by m (setup_of p.handshake).opened p.window ≡ x.1.end.window
  pub opens : is_open p.handshake ≡ true → is_open x.1.end.handshake ≡ true

-- a vBucket that is put as it was
pub put_again : (states : States) (v : ℕ) (vb : Plain) → states v ≡ Some vb → (q : ℕ) → with_vb_at states v vb q ≡ states q
put_again states v vb has q = elim (q == v) as (λ b. (q == v) ≡ b → (if b then Some vb else states q) ≡ states q)
    [ true ↦ λ e. sym has ∙ ap states (sym (eqb-true q v e)) | false ↦ λ e. refl ] refl

-- a connection stays open, whatever is set
flag_open : (called : Named) (o : Option Bool) (new : Handshake) → option_map (λ flag. Handshake.Open flag called) o ≡ Some new → is_open new ≡ true
flag_open called None new e = cc
flag_open called (Some flag) new e = let is : Handshake.Open flag called ≡ new = cc in ap is_open (sym is)

named_open : (sync : Bool) (called : Named) (b : Bool) (new : Handshake) → (if b then Some (Handshake.Open sync called) else None) ≡ Some new → is_open new ≡ true
named_open sync called true new e = let is : Handshake.Open sync called ≡ new = cc in ap is_open (sym is)
named_open sync called false new e = cc

same_open : {T : Type 0} (sync : Bool) (called : Named) (o : Option T) (new : Handshake) → as_before (Handshake.Open sync called) o ≡ Some new → is_open new ≡ true
same_open sync called None new e = cc
same_open sync called (Some x) new e = let is : Handshake.Open sync called ≡ new = cc in ap is_open (sym is)

still_by : (sync : Bool) (called : Named) (value : List ℕ) (a b c d : Bool) (new : Handshake)
    → (if a then option_map (λ flag. Handshake.Open flag called) (flag_of value) else if b then (if is_name value then Some (Handshake.Open sync (named_by value)) else None)
    else if c then as_before (Handshake.Open sync called) (flag_of value) else if d then as_before (Handshake.Open sync called) (size_of value) else None) ≡ Some new → is_open new ≡ true
still_by sync called value true b c d new e = flag_open called (flag_of value) new e
still_by sync called value false true c d new e = named_open sync (named_by value) (is_name value) new e
still_by sync called value false false true d new e = same_open sync called (flag_of value) new e
still_by sync called value false false false true new e = same_open sync called (size_of value) new e
still_by sync called value false false false false new e = cc

still_open : (set : Handshake) (key value : List ℕ) (new : Handshake) → controlled set key value ≡ Some new → is_open new ≡ true
still_open Handshake.Fresh key value new e = cc
still_open (Handshake.Open sync called) key value new e =
    still_by sync called value (bytes_eq key (codes "enable_sync_writes")) (bytes_eq key (codes "consumer_name")) (bytes_eq key (codes "enable_noop")) (bytes_eq key (codes "set_noop_interval")) new e

-- and one that is put otherwise
pub put_here : (states : States) (v : ℕ) (vb : Plain) → with_vb_at states v vb v ≡ Some vb
put_here states v vb = ap (λ b. if b then Some vb else states v) (eq-eqb v v refl)

pub put_there : (states : States) (v : ℕ) (vb : Plain) (q : ℕ) → (q ≡ v → ⊥) → with_vb_at states v vb q ≡ states q
put_there states v vb q other = ap (λ b. if b then Some vb else states q) (ne_eqb q v other)

-- what is known of the vBucket of a frame is what the node has of it
pub record IsTold (role : Option (Option Role)) (known : Option (List LogEntry)) (o : Option Plain) : Type 0 where
  pub away : o ≡ None → role ≡ Some None
  pub there : (vb : Plain) → o ≡ Some vb → (role ≡ Some None → ⊥) × IsIfKnown known vb.log

module _ (role : Option (Option Role)) (known : Option (List LogEntry)) (stream : Option ClientStream) (told : Bool) (count : ℕ) (f : Frame) (states : States) (p : PlainProducer) where
  abbrev s : Served
  s = begun p

  abbrev pub now : Moment
  now = record { setup = setup_of p.handshake; stream = stream; told = told; durables = count }

  -- what fits a message
  abbrev pub FitsHere : Option DcpMsg → Frame → Type 0
  FitsHere m g = FitsMessage role known now f g m

  abbrev Quiet : Option DcpMsg → States × Served → Type 0
  Quiet m x = Quietly FitsHere f m states p x

  -- but OPEN and a request for a stream
  once : (m : DcpMsg) (g : Frame) → (is_open p.handshake ≡ true → FitsOpen role known stream f g m) → (is_open p.handshake ≡ false → IsStatus f g Status.Einval) → FitsOnceOpen (setup_of p.handshake).opened role known stream f g m
  once m g over before = once_open (setup_of p.handshake).opened role known stream f g m (λ e. over (sym (open_as p.handshake) ∙ e)) (λ e. before (sym (open_as p.handshake) ∙ e))

  shown_open : {b : Bool} → is_open p.handshake ≡ b → (setup_of p.handshake).opened ≡ b
  shown_open e = open_as p.handshake ∙ e

  -- Einval, where that fits whether it is open or not
  refused_fits : (m : DcpMsg) → (is_open p.handshake ≡ true → FitsOpen role known stream f (status_frame f Status.Einval) m) → FitsOnceOpen (setup_of p.handshake).opened role known stream f (status_frame f Status.Einval) m
  refused_fits m over = once m (status_frame f Status.Einval) over (λ shut. alone f Status.Einval)

  -- which it is before OPEN
  shut_fits : (m : DcpMsg) → is_open p.handshake ≡ false → FitsOnceOpen (setup_of p.handshake).opened role known stream f (status_frame f Status.Einval) m
  shut_fits m shut = once m (status_frame f Status.Einval) (λ over. let z : true ≡ false = sym over ∙ shut in cc) (λ e. alone f Status.Einval)

  -- and any status, over an open connection
  over_fits : (m : DcpMsg) (st : Status) → is_open p.handshake ≡ true → FitsOpen role known stream f (status_frame f st) m → FitsOnceOpen (setup_of p.handshake).opened role known stream f (status_frame f st) m
  over_fits m st opened fits = once m (status_frame f st) (λ e. fits) (λ shut. let z : true ≡ false = sym opened ∙ shut in cc)

  -- the frame wants an answer
  abbrev Wants : Type 0
  Wants = wants_answer (setup_of p.handshake) f ≡ true

  module _ (wants : Wants) where
    -- which a status alone is
    status_is : (m : Option DcpMsg) (st : Status) → FitsHere m (status_frame f st) → IsAnswerTo (FitsHere m) f (wants_answer (setup_of p.handshake) f) (spelling (status_frame f st))
    status_is m st fits = answer_as (FitsHere m) f true (wants_answer (setup_of p.handshake) f) (spelling (status_frame f st)) wants (status_to (FitsHere m) f st fits)

    -- a status alone, with this handshake
    set_so : (m : Option DcpMsg) (st : Status) (set : Handshake) → FitsHere m (status_frame f st) → set_by m (setup_of p.handshake) ≡ setup_of set → window_by m (setup_of p.handshake).opened p.window ≡ p.window → (is_open p.handshake ≡ true → is_open set ≡ true) → Quiet m (states, status_sent f st (with_handshake s set))
    unfolding status_sent
    set_so m st set fits sets flows opens = record { vbs = λ q. refl; lines = refl; answers = status_is m st fits; desk = refl; asked = refl; streams = refl; sets = sets; flows = flows; opens = opens }

    pub status_so : (m : Option DcpMsg) (st : Status) → FitsHere m (status_frame f st) → set_by m (setup_of p.handshake) ≡ setup_of p.handshake → window_by m (setup_of p.handshake).opened p.window ≡ p.window → Quiet m (states, status_sent f st s)
    unfolding status_sent
    status_so m st fits sets flows = record { vbs = λ q. refl; lines = refl; answers = status_is m st fits; desk = refl; asked = refl; streams = refl; sets = sets; flows = flows; opens = λ e. e }

    -- OPEN
    open_so : (number flags : ℕ) (text : List ℕ) (o : Option Status) → open_refusal p.handshake flags ≡ o → Quiet (Some (msg.Open number flags text)) (states, opened_unless o f s)
    open_so number flags text None e =
        set_so (Some (msg.Open number flags text)) Status.Success (opened_as None p.handshake) (alone_as f Status.Success (open_status (setup_of p.handshake).opened flags) (open_is p.handshake flags ∙ ap status_if e))
        (open_sets p.handshake number flags text ∙ ap (λ o. setup_of (opened_as o p.handshake)) e) refl (λ is. refl)
    open_so number flags text (Some st) e =
        status_so (Some (msg.Open number flags text)) st (alone_as f st (open_status (setup_of p.handshake).opened flags) (open_is p.handshake flags ∙ ap status_if e))
        (open_sets p.handshake number flags text ∙ ap (λ o. setup_of (opened_as o p.handshake)) e) refl

    -- CONTROL
    set_by_key : (key value : List ℕ) (o : Option Handshake) → bytes_eq key SIZE ≡ false → controlled p.handshake key value ≡ o → Quiet (Some (msg.Control key value)) (states, controlled_as o f s)
    set_by_key key value None other e =
        status_so (Some (msg.Control key value)) Status.Einval
        (refused_fits (msg.Control key value) (λ is. alone_as f Status.Einval (control_status key value) (control_is p.handshake key value other (shown_open is) ∙ ap (λ o. set_status (is_some o)) e)))
        (control_sets p.handshake key value ∙ ap (λ o. setup_of (kept_or o p.handshake)) e) (other_flows key value (setup_of p.handshake).opened p.window other)
    set_by_key key value (Some set) other e =
        set_so (Some (msg.Control key value)) Status.Success set
        (once (msg.Control key value) (status_frame f Status.Success) (λ is. alone_as f Status.Success (control_status key value) (control_is p.handshake key value other (shown_open is) ∙ ap (λ o. set_status (is_some o)) e))
        (λ shut. let z : None ≡ Some set = sym (control_fresh p.handshake key value (shown_open shut)) ∙ e in cc))
        (control_sets p.handshake key value ∙ ap (λ o. setup_of (kept_or o p.handshake)) e) (other_flows key value (setup_of p.handshake).opened p.window other) (λ is. still_open p.handshake key value set e)

    sized_so : (key value : List ℕ) (o : Option ℕ) → bytes_eq key SIZE ≡ true → sized p.handshake value ≡ o → Quiet (Some (msg.Control key value)) (states, sized_as o f s)
    unfolding status_sent
    sized_so key value None e is =
        status_so (Some (msg.Control key value)) Status.Einval
        (refused_fits (msg.Control key value) (λ over. alone_as f Status.Einval (control_status key value) (size_is p.handshake key value e (shown_open over) ∙ ap (λ o. set_status (is_some o)) is))) (size_sets p.handshake key value e) (size_flows p.handshake key value p.window None e is)
    sized_so key value (Some size) e is = record {
      vbs = λ q. refl;
      lines = refl;
      answers = status_is (Some (msg.Control key value)) Status.Success
          (once (msg.Control key value) (status_frame f Status.Success) (λ over. alone_as f Status.Success (control_status key value) (size_is p.handshake key value e (shown_open over) ∙ ap (λ o. set_status (is_some o)) is))
          (λ shut. let z : None ≡ Some size = sym (size_fresh p.handshake value (shown_open shut)) ∙ is in cc));
      desk = refl;
      asked = refl;
      streams = refl;
      sets = size_sets p.handshake key value e;
      flows = size_flows p.handshake key value p.window (Some size) e is;
      opens = λ o. o;
    }

    control_so : (key value : List ℕ) (b : Bool) → bytes_eq key SIZE ≡ b
        → Quiet (Some (msg.Control key value)) (states, if b then sized_as (sized p.handshake value) f s else controlled_as (controlled p.handshake key value) f s)
    control_so key value true e = sized_so key value (sized p.handshake value) e refl
    control_so key value false e = set_by_key key value (controlled p.handshake key value) e refl

    -- an acknowledgement of a seqno is refused at a client's desk
    fed_none : is_client p.desk.stream ≡ true → (o : Option PlainStream) → fed_stream p.desk.stream o ≡ None
    fed_none is None = refl
    fed_none is (Some stream) = ap (λ b. if b || stream.ended then None else Some stream) is

    -- by whether the connection is open
    either_so : (m : Option DcpMsg) (b : Bool) (x y : Prog Served) → is_open p.handshake ≡ b → (is_open p.handshake ≡ true → Quiet m (after x states)) → (is_open p.handshake ≡ false → Quiet m (after y states)) → Quiet m (after (if b then x else y) states)
    either_so m true x y e a c = a e
    either_so m false x y e a c = c e

    ack_so : is_client p.desk.stream ≡ true → (seq : ℕ) → Quiet (Some (msg.SeqnoAcknowledged seq)) (after (acknowledged f seq s) states)
    unfolding acknowledged
    ack_so is seq =
        either_so (Some (msg.SeqnoAcknowledged seq)) (is_open p.handshake) (count_requested f seq s (weighed seq (fed_stream p.desk.stream (kept_at f.vb_or_status p.streams)) (member_of p.handshake))) (Done (status_sent f Status.Einval s)) refl
        (λ over. let it : Quiet (Some (msg.SeqnoAcknowledged seq)) (after (count_requested f seq s (weighed seq None (member_of p.handshake))) states) =
        status_so (Some (msg.SeqnoAcknowledged seq)) Status.NotSupported (over_fits (msg.SeqnoAcknowledged seq) Status.NotSupported over (alone f Status.NotSupported)) refl refl in
        subst (λ o. Quiet (Some (msg.SeqnoAcknowledged seq)) (after (count_requested f seq s (weighed seq o (member_of p.handshake))) states)) (sym (fed_none is (kept_at f.vb_or_status p.streams))) it)
        (λ shut. status_so (Some (msg.SeqnoAcknowledged seq)) Status.Einval (shut_fits (msg.SeqnoAcknowledged seq) shut) refl refl)

    -- GET_FAILOVER_LOG
    module _ (over : is_open p.handshake ≡ true) (says : message_of f ≡ Some msg.GetFailoverLog) (asks : (f.magic == RESPONSE) ≡ false) (is : IsTold role known (states f.vb_or_status)) where
      log_given_so : (st : States) → ((q : ℕ) → st q ≡ states q) → (vb : Plain) → states f.vb_or_status ≡ Some vb → Quiet (Some msg.GetFailoverLog) (st, log_sent f s (Some vb.log))
      log_given_so st same vb e =
          let x = is.there vb e in
          let fits : FitsOnceOpen (setup_of p.handshake).opened role known stream f (dcp_frame (msg.LogAnswer (status_code Status.Success) vb.log) f.opaque 0) msg.GetFailoverLog =
          once msg.GetFailoverLog (dcp_frame (msg.LogAnswer (status_code Status.Success) vb.log) f.opaque 0) (λ e. record { away = λ off. absurd (x.0 off); there = λ on. (vb.log, x.1, refl) })
          (λ shut. let z : true ≡ false = sym over ∙ shut in cc) in
          record {
            vbs = same;
            lines = refl;
            answers = answer_as (FitsHere (Some msg.GetFailoverLog)) f true (wants_answer (setup_of p.handshake) f) (spelling (dcp_frame (msg.LogAnswer (status_code Status.Success) vb.log) f.opaque 0)) wants
                (log_answer_to (FitsHere (Some msg.GetFailoverLog)) f says asks (status_code Status.Success) vb.log fits);
            desk = refl;
            asked = refl;
            streams = refl;
            sets = refl;
            flows = refl;
            opens = λ o. o;
          }

      log_so : (o : Option Plain) → states f.vb_or_status ≡ o → Quiet (Some msg.GetFailoverLog) (let y = call_at states f.vb_or_status call.Log o in (y.0, log_answered f s y.1))
      log_so None e =
          status_so (Some msg.GetFailoverLog) Status.NotMyVbucket
          (over_fits msg.GetFailoverLog Status.NotMyVbucket over (record { away = λ off. alone f Status.NotMyVbucket; there = λ on. absurd (on (is.away e)) })) refl refl
      log_so (Some vb) e = log_given_so (with_vb_at states f.vb_or_status vb) (put_again states f.vb_or_status vb e) vb e

  module _ (asks : (f.magic == RESPONSE) ≡ false) where
    -- bytes: there is no answer over an open connection
    bytes_so : (bytes : ℕ) → message_of f ≡ Some (msg.BufferAcknowledgement bytes) → (b : Bool) → is_open p.handshake ≡ b → (end : PlainProducer) → end.desk ≡ p.desk → end.asked ≡ p.asked → end.streams ≡ p.streams → end.handshake ≡ p.handshake → with_acked bytes p.window ≡ end.window
        → Quiet (Some (msg.BufferAcknowledgement bytes)) (states, if b then record s { end = end } else status_sent f Status.Einval s)
    bytes_so bytes says true is end desk asked streams shaken acked = record {
      vbs = λ q. refl;
      lines = refl;
      answers = answer_as (FitsHere (Some (msg.BufferAcknowledgement bytes))) f false (wants_answer (setup_of p.handshake) f) [] (bytes_want (setup_of p.handshake) f bytes says (open_as p.handshake ∙ is)) refl;
      desk = desk;
      asked = asked;
      streams = streams;
      sets = ap setup_of (sym shaken);
      flows = ap (λ b. if b then with_acked bytes p.window else p.window) (open_as p.handshake ∙ is) ∙ acked;
      opens = λ o. ap is_open shaken ∙ o;
    }
    bytes_so bytes says false is end desk asked streams shaken acked =
        status_so (fresh_wants (setup_of p.handshake) f asks (open_as p.handshake ∙ is)) (Some (msg.BufferAcknowledgement bytes)) Status.Einval (shut_fits (msg.BufferAcknowledgement bytes) is) refl (ap (λ b. if b then with_acked bytes p.window else p.window) (open_as p.handshake ∙ is))

    module _ (is : is_client p.desk.stream ≡ true) (vb : IsTold role known (states f.vb_or_status)) where
      -- one that acknowledges no bytes wants an answer
      wants_so : (m : DcpMsg) → message_of f ≡ Some m → is_acknowledgement (Some m) ≡ false → Wants
      wants_so m says other = message_wants (setup_of p.handshake) f (Some m) asks says other

      noop_so : Wants → (b : Bool) → is_open p.handshake ≡ b → Quiet (Some msg.Noop) (states, status_sent f (if b then Status.Success else Status.Einval) s)
      noop_so wants true e = status_so wants (Some msg.Noop) Status.Success (over_fits msg.Noop Status.Success e (alone f Status.Success)) refl refl
      noop_so wants false e = status_so wants (Some msg.Noop) Status.Einval (shut_fits msg.Noop e) refl refl

      -- each message but a request for a stream and CLOSE_STREAM
      pub message_so : (m : DcpMsg) → message_of f ≡ Some m → ask_by (Some m) ≡ None → is_close (Some m) ≡ false → Quiet (Some m) (after (message_answered f m s) states)
      message_so (msg.Open number flags text) says none open_still = open_so (wants_so (msg.Open number flags text) says refl) number flags text (open_refusal p.handshake flags) refl
      message_so (msg.Control key value) says none open_still = control_so (wants_so (msg.Control key value) says refl) key value (bytes_eq key SIZE) refl
      message_so (msg.StreamRequest ask) says none open_still = cc
      message_so (msg.SeqnoAcknowledged seq) says none open_still = ack_so (wants_so (msg.SeqnoAcknowledged seq) says refl) is seq
      message_so (msg.BufferAcknowledgement bytes) says none open_still = bytes_so bytes says (is_open p.handshake) refl _ refl refl refl refl refl
      message_so msg.CloseStream says none open_still = cc
      message_so msg.GetFailoverLog says none open_still =
          let wants : Wants = wants_so msg.GetFailoverLog says refl in
          either_so wants (Some msg.GetFailoverLog) (is_open p.handshake) (Call f.vb_or_status call.Log (λ reply. Done (log_answered f s reply))) (Done (status_sent f Status.Einval s)) refl
          (λ over. log_so wants over says asks vb (states f.vb_or_status) refl) (λ shut. status_so wants (Some msg.GetFailoverLog) Status.Einval (shut_fits msg.GetFailoverLog shut) refl refl)
      message_so msg.Noop says none open_still = noop_so (wants_so msg.Noop says refl) (is_open p.handshake) refl
      message_so other says none open_still = status_so (wants_so other says refl) (Some other) Status.Einval (refused_fits other (λ over. alone f Status.Einval)) refl refl
