-- the line `up`: what becomes of its link's stream, frame by frame
use Rattle.std.specs.Prelude.{◌≡◌, ◌<◌, ◌≤◌, ◌∷◌, ◌++◌, ◌||◌, ◌==◌, ◌⊎◌, if◌then◌else◌, Result, Ok, Err}
use Rattle.std.specs.List.{list_any}
use Rattle.dcp_producer.specs.Producers.{member_of, is_open, stream_at}
use Rattle.dcp_producer.specs.Serving.{acknowledged, count_answered, count_requested, counted_by, counted_line, fed_stream, heard, high_of_reply, log_of_reply, new_stream, next_stream, opening_requested, opens, refusal_requested, weighed, with_asked, with_granted, place_of_reply}
use Rattle.dcp_producer.specs.declared.desk.Named.{Named}
use Rattle.node_world.specs.Links.{frame_up, frames_up, up_at, with_up}
use Rattle.node_world.specs.Nodes.{all_posted}
use Rattle.takeover.specs.GivingUp.{answered, behind_answer, new_give_up}
use Rattle.takeover.specs.declared.give_up.GiveStep.{GiveStep}
use Rattle.takeover.specs.declared.give_up.GiveStep.TheVariants.{AwaitActive, AwaitPending, End, SendActive, SendAll, SendPending, SendRest, Yield}
use Rattle.takeover.specs.declared.give_up.GiveUp.{GiveUp}
use Rattle.vb_calls.proofs.Conduct.{after_always}
use Rattle.vb_calls.specs.Programs.{Always, AnyCall}
use Rattle.vb_calls.specs.declared.calls.VbAnswer.{VbAnswer}
use Rattle.vb_calls.specs.declared.calls.VbAnswer.TheVariants as answer
use Rattle.vb_calls.specs.declared.calls.VbReply.{VbReply}
use Rattle.transcript_law.proofs.Words.{ℕ, suc, Bool, true, false, List, [], map, refl, ap, sym, ◌∙◌, subst, arith, inl, inr, ⊎_elim, cases_lt, eq-eqb, option_map, Option, Some, None, AskAnswer, Chronicle, Change, DcpMsg, Done, Event, Frame, Handshake, LogEntry, PeerResult, PlainLink, PlainNode, PlainStream, PlainWorld, Prog, Served, States, Status, StaysSound, StreamAsk, StreamName, after, after_lines, ask_verdict, begun, dcp_frame, frame_answered, frames_in, link_number, moved_len, producer_node, row_at, status_sent, stream_answered, stream_request, with_frame, with_states}
use Rattle.transcript_law.proofs.invariant.{Agreement.{Agrees, EndsStand, IsUnsaid, IsUpward, LinkAgrees, UpwardIs, answers_in, consumer_seat, heir_answers, producer_seat, spoken, vb_of, wants_of}, Ranged.{NodeRanged}}
use Rattle.transcript_law.proofs.lines.Takeovers.{lines_takeovers}
use Rattle.transcript_law.proofs.links.{Firsts.{ServedAt, Succeeds, asks_from, first_count, firsts, goes_on_before, set_after}, Heard.{heard_end, state_heard}, Requests.{ack_answered, all_set, bytes_answered, first_served, passed_end, request_answered, request_last}, Talks.{come}, Upgoing.{upward_front}}
use Rattle.transcript_law.proofs.links.Upward.{AskingNow, Now, frame_came, in_range, link_now, next_frame, served_at, world_at}
use Rattle.transcript_law.proofs.noted.{Groups.{no_grants}, Upping.{HeardAs, IsNew, UpCame, UpStreams}}
use Rattle.transcript_law.proofs.verbs.{Settling.{Steady}, Tellings.{are_posts}, Untaken.{is_beside}, Ups.{begun as first_now, first, one_answered}}
use Rattle.transcript_law.specs.LawfulAnswers.{AllDurable}
use Rattle.transcript_law.specs.Plainness.{IsOfClient}
use Rattle.transcript_law.specs.TakeoverNotes.{is_grant_of}
use Rattle.vb_types.specs.declared.stream.Place.{Place}
use Rattle.dcp_producer.specs.Producers.{is_sync}

-- ---- whether lines let the link continue

abbrev pub grants : ℕ → List Event → Bool
grants l lines = list_any (is_grant_of l) lines

pub none_more : (l : ℕ) (xs ys : List Event) → grants l xs ≡ false → grants l ys ≡ false → grants l (xs ++ ys) ≡ false
none_more l [] ys a b = b
none_more l (x ∷ xs) ys a b = by (is_grant_of l x) a (λ rest. none_more l xs ys rest b)
  where
    by : (h : Bool) → (h || grants l xs) ≡ false → (grants l xs ≡ false → grants l (xs ++ ys) ≡ false) → (h || grants l (xs ++ ys)) ≡ false
    by true e rest = e
    by false e rest = rest e

some_front : (l : ℕ) (xs ys : List Event) → grants l xs ≡ true → grants l (xs ++ ys) ≡ true
some_front l [] ys a = cc
some_front l (x ∷ xs) ys a = by (is_grant_of l x) a (λ rest. some_front l xs ys rest)
  where
    by : (h : Bool) → (h || grants l xs) ≡ true → (grants l xs ≡ true → grants l (xs ++ ys) ≡ true) → (h || grants l (xs ++ ys)) ≡ true
    by true e rest = refl
    by false e rest = rest e

some_back : (l : ℕ) (xs ys : List Event) → grants l ys ≡ true → grants l (xs ++ ys) ≡ true
some_back l [] ys b = b
some_back l (x ∷ xs) ys b = by (is_grant_of l x) (some_back l xs ys b)
  where
    by : (h : Bool) → grants l (xs ++ ys) ≡ true → (h || grants l (xs ++ ys)) ≡ true
    by true rest = refl
    by false rest = rest

none_changed : (l n v uuid : ℕ) (changes : List Change) → grants l (map (Event.Changed n v uuid) changes) ≡ false
none_changed l n v uuid [] = refl
none_changed l n v uuid (c ∷ changes) = none_changed l n v uuid changes

pub client_beside : (n : ℕ) (line : Event) → IsOfClient n line → is_beside line ≡ true
client_beside n (Event.Changed m v uuid change) is = refl
client_beside n (Event.Asked (StreamName.Client m c) k v ask high log said) is = refl
client_beside n (Event.Reply m c bytes) is = refl
client_beside n (Event.Closed m c) is = refl
client_beside n other is = absurd is

-- ---- streams

-- what becomes of them where lines were told; none is lost
abbrev Ups : ℕ → List Event → List PlainStream → List PlainStream → Type 0
Ups l lines [] [] = Unit {0}
Ups l lines [] (s' ∷ ss') = (grants l lines ≡ true) × IsNew s'
Ups l lines (s ∷ ss) [] = ⊥
Ups l lines (s ∷ ss) (s' ∷ ss') = (grants l lines ≡ false) × HeardAs s s'

ups_same : (l : ℕ) (lines : List Event) (ss : List PlainStream) → grants l lines ≡ false → Ups l lines ss ss
ups_same l lines [] none = tt
ups_same l lines (s ∷ ss) none = (none, (refl, inl refl))

-- the step of one that is at it
abbrev step_in : Option GiveUp → GiveStep
step_in None = SendAll
step_in (Some g) = g.step

-- how far a stream is, behind an answer or none
abbrev Gives : Option GiveUp → Option GiveUp → Type 0
Gives g g' = (g' ≡ g) ⊎ (((g ≡ Some (record { step = AwaitPending })) × (g' ≡ Some (record { step = Yield }))) ⊎ ((g ≡ Some (record { step = AwaitActive })) × (g' ≡ Some (record { step = End }))))

heard_later : (s s' s'' : PlainStream) → HeardAs s s' → HeardAs s' s'' → HeardAs s s''
heard_later s s' s'' (e, x) (e', y) = (e' ∙ e, by x y)
  where
    by : Gives s.gives s'.gives → Gives s'.gives s''.gives → Gives s.gives s''.gives
    by (inl a) (inl b) = inl (b ∙ a)
    by (inl a) (inr (inl (b, c))) = inr (inl (sym a ∙ b, c))
    by (inl a) (inr (inr (b, c))) = inr (inr (sym a ∙ b, c))
    by (inr (inl (a, b))) (inl c) = inr (inl (a, c ∙ b))
    by (inr (inr (a, b))) (inl c) = inr (inr (a, c ∙ b))
    by (inr (inl (a, b))) (inr (inl (c, d))) = let z : Yield ≡ AwaitPending = ap step_in (sym b ∙ c) in cc
    by (inr (inl (a, b))) (inr (inr (c, d))) = let z : Yield ≡ AwaitActive = ap step_in (sym b ∙ c) in cc
    by (inr (inr (a, b))) (inr (inl (c, d))) = let z : End ≡ AwaitPending = ap step_in (sym b ∙ c) in cc
    by (inr (inr (a, b))) (inr (inr (c, d))) = let z : End ≡ AwaitActive = ap step_in (sym b ∙ c) in cc

-- a stream that was granted just now waits for no answer
new_waits : (g : Option GiveUp) (step : GiveStep) → (g ≡ None) ⊎ (g ≡ Some new_give_up) → g ≡ Some (record { step = step }) → (step ≡ SendAll)
new_waits g step (inl none) e = sym (ap step_in e) ∙ ap step_in none
new_waits g step (inr new) e = sym (ap step_in e) ∙ ap step_in new

new_later : (s' s'' : PlainStream) → IsNew s' → HeardAs s' s'' → IsNew s''
new_later s' s'' new (e, inl same) = record { goes = e ∙ new.goes; gives = ⊎_elim (λ n. inl (same ∙ n)) (λ n. inr (same ∙ n)) new.gives }
new_later s' s'' new (e, inr (inl (a, b))) = let z = new_waits s'.gives AwaitPending new.gives a in cc
new_later s' s'' new (e, inr (inr (a, b))) = let z = new_waits s'.gives AwaitActive new.gives a in cc

ups_later : (l : ℕ) (xs ys : List Event) (ss ss' ss'' : List PlainStream) → Ups l xs ss ss' → Ups l ys ss' ss'' → Ups l (xs ++ ys) ss ss''
ups_later l xs ys [] [] [] a b = tt
ups_later l xs ys [] [] (s'' ∷ ss'') a b = (some_back l xs ys b.0, b.1)
ups_later l xs ys [] (s' ∷ ss') [] a b = absurd b
ups_later l xs ys [] (s' ∷ ss') (s'' ∷ ss'') a b = (some_front l xs ys a.0, new_later s' s'' a.1 b.1)
ups_later l xs ys (s ∷ ss) [] ss'' a b = absurd a
ups_later l xs ys (s ∷ ss) (s' ∷ ss') [] a b = absurd b
ups_later l xs ys (s ∷ ss) (s' ∷ ss') (s'' ∷ ss'') a b = (none_more l xs ys a.0 b.0, heard_later s s' s'' a.1 b.1)

ups_streams : (l : ℕ) (lines : List Event) (ss ss' : List PlainStream) → Ups l lines ss ss' → UpStreams lines l ss ss'
ups_streams l lines [] [] a = tt
ups_streams l lines [] (s' ∷ ss') a = a
ups_streams l lines (s ∷ ss) [] a = tt
ups_streams l lines (s ∷ ss) (s' ∷ ss') a = a

-- ---- a frame that is answered

-- it lets nothing continue, and the streams are as they were
abbrev pub Still : ℕ → Served → Served → Type 0
Still l s s' = (grants l s'.events ≡ false) × (s'.end.streams ≡ s.end.streams)

module _ (l : ℕ) (f : Frame) (s : Served) (none : grants l s.events ≡ false) where
  refused : (st : Status) → Still l s (status_sent f st s)
  unfolding status_sent
  refused st = (none, refl)

  counted : (member seq : ℕ) (reply : VbReply) (said : VbAnswer) → Still l s (counted_by f member seq reply said s)
  counted member seq reply (answer.Status st) = refused st
  counted member seq reply other =
      (none_more l s.events (counted_line s.end.desk f member seq ∷ map (Event.Changed s.end.desk.node f.vb_or_status reply.branch) reply.changes) none (none_changed l s.end.desk.node f.vb_or_status reply.branch reply.changes), refl)

  count : (member seq : ℕ) (reply : Option VbReply) → Still l s (count_answered f member seq s reply)
  count member seq None = refused Status.NotMyVbucket
  count member seq (Some reply) = counted member seq reply reply.answer

  weight : (seq : ℕ) (weighed : Result ℕ Status) → Always AnyCall (Still l s) (count_requested f seq s weighed)
  weight seq (Err st) = refused st
  weight seq (Ok member) = (tt, λ reply any. count member seq reply)

  -- an acknowledgement
  pub acked : (seq : ℕ) → Always AnyCall (Still l s) (acknowledged f seq s)
  unfolding acknowledged
  acked seq = by (is_open s.end.handshake)
    where
      weight_of : Result ℕ Status
      weight_of = weighed seq (fed_stream s.end.desk.stream (stream_at f.vb_or_status s.end.streams)) (member_of s.end.handshake)

      by : (b : Bool) → Always AnyCall (Still l s) (if b then count_requested f seq s weight_of else Done (status_sent f Status.Einval s))
      by true = weight seq weight_of
      by false = refused Status.Einval

  -- a request for a stream, where there is none
  module _ (empty : s.end.streams ≡ []) (named : s.end.desk.stream ≡ StreamName.Link l) (ask : StreamAsk) where
    abbrev Asked : Served → Type 0
    Asked s' = Ups l s'.events [] s'.end.streams

    is_new : (id : ℕ) (from : Place) → IsNew (new_stream id f ask (is_sync s.end.handshake) from)
    is_new id from = record { goes = refl; gives = elim (ask.flags == 1) as (λ b. let g : Option GiveUp = if b then Some new_give_up else None in (g ≡ None) ⊎ (g ≡ Some new_give_up)) [ true ↦ inr refl | false ↦ inl refl ] }

    still_none : (lines : List Event) → Ups l lines [] s.end.streams
    still_none lines = subst (Ups l lines []) (sym empty) tt

    told : (from : Place) (log : List LogEntry) (high : ℕ) (said : AskAnswer) → Asked (stream_answered f ask (record s { end = with_granted (with_asked s.end) (next_stream s.end) f ask from said }) log high said)
    unfolding stream_answered
    told from log high AskAnswer.Go =
        let line : Event = Event.Asked s.end.desk.stream s.end.desk.node f.vb_or_status ask high log AskAnswer.Go in
        let granted : grants l (line ∷ []) ≡ true = ap (λ name. is_grant_of l (Event.Asked name s.end.desk.node f.vb_or_status ask high log AskAnswer.Go) || false) named ∙ ap (λ b. b || false) (eq-eqb l l refl) in
        subst (λ ss. Ups l (s.events ++ line ∷ []) [] (ss ++ new_stream (next_stream s.end) f ask (is_sync s.end.handshake) from ∷ [])) (sym empty) (some_back l s.events (line ∷ []) granted, is_new (next_stream s.end) from)
    told from log high (AskAnswer.Roll to) = still_none (s.events ++ Event.Asked s.end.desk.stream s.end.desk.node f.vb_or_status ask high log (AskAnswer.Roll to) ∷ [])
    told from log high (AskAnswer.Refuse code) = still_none (s.events ++ Event.Asked s.end.desk.stream s.end.desk.node f.vb_or_status ask high log (AskAnswer.Refuse code) ∷ [])

    told_none : (log : List LogEntry) (high : ℕ) (said : AskAnswer) → Asked (stream_answered f ask s log high said)
    unfolding stream_answered
    told_none log high said = still_none (s.events ++ Event.Asked s.end.desk.stream s.end.desk.node f.vb_or_status ask high log said ∷ [])

    asked : Always AnyCall Asked (stream_request f ask s)
    unfolding stream_request
    asked = by (opens s.end f.vb_or_status ask)
      where
        by : (b : Bool) → Always AnyCall Asked (if b then opening_requested f ask s else refusal_requested f ask s)
        by true = (tt, λ reply any. told (place_of_reply reply) (log_of_reply reply) (high_of_reply reply) (ask_verdict reply))
        by false = (tt, λ reply any. told_none (log_of_reply reply) (high_of_reply reply) _)

-- the answer to a state is heard by the streams that wait for it
heard_as : (o : ℕ) (s : PlainStream) → HeardAs s (heard o s)
heard_as o s = by (s.opaque == o)
  where
    in_step : (step : GiveStep) → Gives (Some (record { step = step })) (Some (record { step = behind_answer step }))
    in_step SendAll = inl refl
    in_step SendPending = inl refl
    in_step AwaitPending = inr (inl (refl, refl))
    in_step Yield = inl refl
    in_step SendRest = inl refl
    in_step SendActive = inl refl
    in_step AwaitActive = inr (inr (refl, refl))
    in_step End = inl refl

    gives : (g : Option GiveUp) → Gives g (option_map answered g)
    gives None = inl refl
    gives (Some g) = in_step g.step

    by : (b : Bool) → HeardAs s (if b then record s { gives = option_map answered s.gives } else s)
    by true = (refl, gives s.gives)
    by false = (refl, inl refl)

ups_heard : (l o : ℕ) (ss : List PlainStream) → Ups l [] ss (map (heard o) ss)
ups_heard l o [] = tt
ups_heard l o (s ∷ ss) = (refl, heard_as o s)

-- ---- the frames of the link

no_frames : {A : Type 0} (f : Frame) (fs : List Frame) → [] ≡ f ∷ fs → A
no_frames f fs e = cc

module _ (stays : StaysSound) (steady : Steady) (w : PlainWorld) (r : Chronicle) (n : ℕ) (link : PlainLink) (found : row_at link_number (link_number link) w.links ≡ Some link) (noted : (r.takeover_of (link_number link)).dialed ≡ link.consumer.dialed.takeover) where
  abbrev l : ℕ
  l = link_number link

  abbrev o : ℕ
  o = link.consumer.asked

  abbrev v : ℕ
  v = link.consumer.dialed.vb

  module _ (f : Frame) (fs : List Frame) (x : PlainNode × PeerResult) (now : Now w r n link found (f ∷ fs) x) where
    abbrev s : Served
    s = begun x.1.peer.producer

    abbrev la : LinkAgrees (world_at w r n link found x) (after_lines r x.1.events) now.cluster (served_at w r n link found x.1) (f ∷ fs) []
    la = link_now w r n link found (f ∷ fs) x now

    -- what its answer makes of the streams
    abbrev ComesTo : Prog Served → Type 0
    ComesTo prog = let s' = (after prog x.0.vbs).1 in Ups l s'.events s.end.streams s'.end.streams

    abbrev Comes : Type 0
    Comes = ComesTo (frame_answered f s)

    comes_by : (prog : Prog Served) → frame_answered f s ≡ prog → ComesTo prog → Comes
    comes_by prog e came = subst ComesTo (sym e) came

    -- of a consumer with a stream
    upward : (wrote : List ℕ) (answers : List Frame) → UpwardIs wrote o v answers la.talk.asked → s.end.handshake ≡ set_after link.consumer.dialed (first_count link.consumer.dialed) → Comes
    upward wrote answers acks server = by (upward_front wrote o v answers f (fs ++ la.talk.ups.behind) (subst (UpwardIs wrote o v answers) la.talk.ups.joined acks))
      where
        by : IsUpward wrote o v f → Comes
        by (inl (inl (seq, is, low, one))) =
            let g : Frame = dcp_frame (DcpMsg.SeqnoAcknowledged seq) o v in
            let still = after_always AnyCall (Still l s) (acknowledged g seq s) x.0.vbs (acked l g s refl seq) in
            let s' = (after (acknowledged g seq s) x.0.vbs).1 in
            comes_by (acknowledged g seq s) (ap (λ h. frame_answered h s) is ∙ ack_answered o v seq s low) (subst (Ups l s'.events s.end.streams) (sym still.1) (ups_same l s'.events s.end.streams still.0))
        by (inl (inr (bytes, is, low))) =
            let g : Frame = dcp_frame (DcpMsg.BufferAcknowledgement bytes) o 0 in let named : Named = Named.Member link.consumer.dialed.node in
            comes_by (Done (record s { end = passed_end s g bytes true named })) (ap (λ h. frame_answered h s) is ∙ bytes_answered o bytes s true named low (server ∙ all_set link.consumer.dialed)) (ups_same l [] s.end.streams refl)
        by (inr is) = comes_by (Done (record s { end = heard_end o s.end })) (ap (λ h. frame_answered h s) is ∙ state_heard o s) (ups_heard l o s.end.streams)

    -- of one that asks
    module _ (ask : StreamAsk) (none : IsUnsaid ((after_lines r x.1.events).stream_of (StreamName.Link l) v) ((after_lines r x.1.events).stated_of l)) (t : AskingNow w r n link found f fs x now ask) where
      first_comes : (k : ℕ) → t.answered ≡ k → k < first_count link.consumer.dialed → Comes
      first_comes k is few =
          let at : ServedAt 1 k (suc k) Handshake.Fresh (firsts link.consumer.dialed) = first_served link.consumer.dialed k la.small.0 la.small.2 few in
          let g : Frame = dcp_frame at.row.request (suc k) 0 in let a : Frame = dcp_frame at.row.answer (suc k) 0 in
          let came : Succeeds s g a at.row.set = at.served.succeeds s (t.server ∙ ap (set_after link.consumer.dialed) is) in
          let request : List Frame = dcp_frame (DcpMsg.StreamRequest ask) o v ∷ [] in
          let e : g ∷ (at.asked.0 ++ request) ≡ f ∷ (fs ++ la.talk.ups.behind) = sym (goes_on_before k (asks_from 1 (firsts link.consumer.dialed)) request g at.asked.0 at.asked.1) ∙ next_frame w r n link found f fs x now ask none t k is in
          let same : g ≡ f = cc in
          comes_by (Done (with_frame (record s { end = came.end }) a)) (ap (λ h. frame_answered h s) (sym same) ∙ came.came) (subst (Ups l [] s.end.streams) (sym came.streams) (ups_same l [] s.end.streams refl))

      request_comes : (last : t.answered ≡ first_count link.consumer.dialed) → Comes
      request_comes last =
          let g : Frame = dcp_frame (DcpMsg.StreamRequest ask) o v in
          let e : g ∷ [] ≡ f ∷ (fs ++ la.talk.ups.behind) = sym (request_last o link.consumer.dialed ask) ∙ next_frame w r n link found f fs x now ask none t (first_count link.consumer.dialed) last in
          let same : g ≡ f = cc in
          let range = in_range w r n link found f fs x now ask none t last (ap (λ k. (k l).dialed) (lines_takeovers r x.1.events) ∙ noted) in
          let s' = (after (stream_request g ask s) x.0.vbs).1 in
          let came = after_always AnyCall (λ (s' : Served). Ups l s'.events [] s'.end.streams) (stream_request g ask s) x.0.vbs (asked l g s refl t.no_stream la.named ask) in
          comes_by (stream_request g ask s) (ap (λ h. frame_answered h s) (sym same) ∙ request_answered o v ask s range) (subst (λ ss. Ups l s'.events ss s'.end.streams) (sym t.no_stream) came)

      asking : Comes
      asking = ⊎_elim (λ few. first_comes t.answered refl few) (λ all. request_comes (let most : t.answered ≤ first_count link.consumer.dialed = t.some_left in omega arith)) (cases_lt t.answered (first_count link.consumer.dialed))

    frame_comes : Comes
    frame_comes = by la.talk.stands
      where
        by : EndsStand (wants_of la.follower) (now.cluster.nodes (consumer_seat link)) (vb_of (world_at w r n link found x) (producer_node (served_at w r n link found x.1)) link.consumer.dialed.vb)
            (now.cluster.nodes (producer_seat (served_at w r n link found x.1))) ((after_lines r x.1.events).stream_of (StreamName.Link l) link.consumer.dialed.vb) ((after_lines r x.1.events).stated_of l) ((after_lines r x.1.events).point_of l) x.1.peer.producer link.consumer la.talk.asked (spoken la.talk.said)
            → Comes
        by (EndsStand.IsAsking ask none t) = asking ask none t
        by (EndsStand.IsRefusedYet none t) = no_frames f (fs ++ la.talk.ups.behind) (sym t.asked_is ∙ la.talk.ups.joined)
        by (EndsStand.IsStreaming t said) = upward t.granted_is.wrote (answers_in o t.handing) t.acks t.server
        by (EndsStand.IsHeir t said) = upward t.granted_is.wrote (heir_answers o t.answered) t.acks t.server

    -- with what is posted behind it
    abbrev came : States × Served
    came = after (frame_answered f s) x.0.vbs

    abbrev posts : List Event
    posts = (all_posted came.1.resolved (with_states x.0 came.0)).1

    posts_none : grants l posts ≡ false
    posts_none = no_grants l posts (are_posts is_beside (producer_node link) (client_beside (producer_node link)) came.1.resolved (with_states x.0 came.0) now.ranged.own)

    abbrev From : List PlainStream → PlainNode × PeerResult → Type 0
    From ss y = Ups l y.1.events ss y.1.peer.producer.streams

    one_more : (ss : List PlainStream) → From ss x → From ss (frame_up f x)
    one_more ss before = subst (From ss) (sym (frame_came w r n link found f x))
        (ups_later l x.1.events (came.1.events ++ posts) ss s.end.streams came.1.end.streams before
        (ups_later l came.1.events posts s.end.streams came.1.end.streams came.1.end.streams frame_comes (ups_same l posts came.1.end.streams posts_none)))

  abbrev UpsTo : List PlainStream → PlainNode × PeerResult → Type 0
  UpsTo ss y = Ups l y.1.events ss y.1.peer.producer.streams

  all_more : (ss : List PlainStream) (fs : List Frame) (x : PlainNode × PeerResult) → Now w r n link found fs x → UpsTo ss x → Now w r n link found [] (frames_up fs x) × UpsTo ss (frames_up fs x)
  all_more ss [] x now before = (now, before)
  all_more ss (f ∷ fs) x now before = all_more ss fs (frame_up f x) (one_answered stays steady w r n link found noted f fs x now) (one_more f fs x now ss before)

  module _ (node : PlainNode) (known : w.nodes (producer_node link) ≡ Some node) (ranged : NodeRanged (producer_node link) node) (calm : AllDurable r.made) (a : Agrees w r) where
    abbrev begin : PlainNode × PeerResult
    begin = first stays steady w r n link found noted node known ranged

    abbrev last : PlainNode × PeerResult
    last = frames_up (frames_in (come link n)) begin

    came_up : (wanted : ℕ) → n ≡ moved_len wanted link.up → UpCame last.1.events wanted n link (with_up link n last.1)
    came_up wanted many =
        let all = all_more link.server.streams (frames_in (come link n)) begin (first_now stays steady w r n link found noted node known ranged calm a) (ups_same l [] link.server.streams refl) in
        record { consumer = refl; many = many; up = refl; heard = all.0.heard; streams = ups_streams l last.1.events link.server.streams last.1.peer.producer.streams all.1 }

-- what becomes of the link of an `up`
pub up_came : StaysSound → Steady → (w : PlainWorld) (r : Chronicle) (wanted : ℕ) (link : PlainLink) → row_at link_number (link_number link) w.links ≡ Some link → (r.takeover_of (link_number link)).dialed ≡ link.consumer.dialed.takeover
    → (node : PlainNode) → w.nodes (producer_node link) ≡ Some node → NodeRanged (producer_node link) node → AllDurable r.made → Agrees w r
    → (let went = (up_at wanted link node).1 in (link' : PlainLink) × (went.0 ≡ Some link') × UpCame went.1.events wanted (moved_len wanted link.up) link link')
up_came stays steady w r wanted link found noted node known ranged calm a =
    let n : ℕ = moved_len wanted link.up in
    (with_up link n (last stays steady w r n link found noted node known ranged calm a).1, refl, came_up stays steady w r n link found noted node known ranged calm a wanted refl)
