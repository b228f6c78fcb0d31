-- the line `up`: a request of a link that was dialed for a takeover says so, and asks for all that comes
use Rattle.std.specs.Prelude.{◌≡◌, ◌<◌, ◌≤◌, ◌∷◌, ◌++◌, ◌^◌, ◌-◌, ◌&&◌, ◌||◌, ◌==◌, ◌⊎◌, if◌then◌else◌, Result, Ok, Err}
use Rattle.std.specs.List.{list_any}
use Rattle.dcp_producer.specs.Producers.{member_of, is_open, stream_at}
use Rattle.dcp_producer.specs.Serving.{acknowledged, count_answered, count_requested, counted_by, counted_line, fed_stream, heard, high_of_reply, log_of_reply, new_stream, next_stream, opening_requested, opens, refusal_requested, weighed, with_asked, with_granted, place_of_reply}
use Rattle.dcp_producer.specs.declared.desk.Named.{Named}
use Rattle.node_world.specs.Links.{frame_up, frames_up, up_at, with_up}
use Rattle.node_world.specs.Nodes.{all_posted}
use Rattle.takeover.specs.GivingUp.{answered, behind_answer, new_give_up}
use Rattle.takeover.specs.declared.give_up.GiveStep.{GiveStep}
use Rattle.takeover.specs.declared.give_up.GiveStep.TheVariants.{AwaitActive, AwaitPending, End, SendActive, SendAll, SendPending, SendRest, Yield}
use Rattle.takeover.specs.declared.give_up.GiveUp.{GiveUp}
use Rattle.vb_calls.proofs.Conduct.{after_always}
use Rattle.vb_calls.specs.Programs.{Always, AnyCall}
use Rattle.vb_calls.specs.declared.calls.VbAnswer.{VbAnswer}
use Rattle.vb_calls.specs.declared.calls.VbAnswer.TheVariants as answer
use Rattle.vb_calls.specs.declared.calls.VbReply.{VbReply}
use Rattle.transcript_law.proofs.Words.{ℕ, suc, Bool, true, false, and_parts, eqb-true, List, [], map, refl, ap, sym, ◌∙◌, subst, arith, inl, inr, ⊎_elim, cases_lt, eq-eqb, option_map, Option, Some, None, AskAnswer, Chronicle, Change, DcpMsg, Done, Event, Frame, Handshake, LogEntry, PeerResult, PlainLink, PlainNode, PlainProducer, PlainStream, PlainWorld, Prog, Served, States, Status, StaysSound, StreamAsk, StreamName, after, after_lines, ask_verdict, begun, dcp_frame, frame_answered, frames_in, link_number, moved_len, producer_node, row_at, Cause, LinkVerb, Outcome, Verb, after_line, link_outcome, node_outcome, on_link, refusal, with_link, status_sent, stream_answered, stream_request, with_frame, with_states}
use Rattle.transcript_law.proofs.invariant.{Agreement.{Agrees, EndsStand, IsUnsaid, IsUpward, LinkAgrees, UpwardIs, answers_in, consumer_seat, heir_answers, producer_seat, spoken, vb_of, wants_of}, Ranged.{NodeRanged}}
use Rattle.transcript_law.proofs.lines.Takeovers.{line_takeovers, lines_takeovers}
use Rattle.transcript_law.proofs.invariant.{LinkRows.{found_is_link}, Noted.{AllNoted}, Ranged.{IsRanged, NodeRangedIf}}
use Rattle.transcript_law.proofs.links.{Firsts.{ServedAt, Succeeds, asks_from, first_count, firsts, goes_on_before, set_after}, Heard.{heard_end, state_heard}, Requests.{ack_answered, all_set, bytes_answered, first_served, passed_end, request_answered, request_last}, Talks.{come}, Upgoing.{upward_front}}
use Rattle.transcript_law.proofs.links.Upward.{AskingNow, Now, frame_came, in_range, link_now, next_frame, served_at, world_at}
use Rattle.transcript_law.proofs.noted.UpFits.{is_calm, all_calm}
use Rattle.transcript_law.proofs.verbs.{Settling.{Steady}, Tellings.{are_posts}, Untaken.{is_beside}, Ups.{begun as first_now, first, one_answered}}
use Rattle.transcript_law.specs.LawfulAnswers.{AllDurable}
use Rattle.transcript_law.specs.Plainness.{IsOfClient}
use Rattle.transcript_law.specs.{LinesTold.{TakeoverKnown}, TakeoverAnswers.{HandsOver}, TakeoverLines.{TakeoverFrom, TakeoverLine}, Tellings.{TellsOf, are_all}}

-- ---- what lines of requests say

abbrev AsksSo : Event → Type 0
AsksSo (Event.Asked (StreamName.Link k) n v ask high log said) = (ask.flags ≡ 1) × (ask.end ≡ 2 ^ 64 - 1)
AsksSo other = Unit {0}

abbrev AllAsk : List Event → Type 0
AllAsk [] = Unit {0}
AllAsk (line ∷ lines) = AsksSo line × AllAsk lines

ask_more : (xs ys : List Event) → AllAsk xs → AllAsk ys → AllAsk (xs ++ ys)
ask_more [] ys a b = b
ask_more (x ∷ xs) ys a b = (a.0, ask_more xs ys a.1 b)

beside_ask : (line : Event) → is_beside line ≡ true → AsksSo line
beside_ask (Event.Asked (StreamName.Link k) n v ask high log said) e = cc
beside_ask other e = tt

all_beside_ask : (lines : List Event) → are_all is_beside lines ≡ true → AllAsk lines
all_beside_ask [] a = tt
all_beside_ask (line ∷ lines) a = let p = and_parts (is_beside line) (are_all is_beside lines) a in (beside_ask line p.0, all_beside_ask lines p.1)

changed_ask : (n v uuid : ℕ) (changes : List Change) → AllAsk (map (Event.Changed n v uuid) changes)
changed_ask n v uuid [] = tt
changed_ask n v uuid (c ∷ changes) = (tt, changed_ask n v uuid changes)

client_beside : (n : ℕ) (line : Event) → IsOfClient n line → is_beside line ≡ true
client_beside n (Event.Changed m v uuid change) is = refl
client_beside n (Event.Asked (StreamName.Client m c) k v ask high log said) is = refl
client_beside n (Event.Reply m c bytes) is = refl
client_beside n (Event.Closed m c) is = refl
client_beside n other is = absurd is

-- ---- a frame that is answered

module _ (f : Frame) (s : Served) (so : AllAsk s.events) where
  abbrev Asks : Served → Type 0
  Asks s' = AllAsk s'.events

  refused : (st : Status) → Asks (status_sent f st s)
  unfolding status_sent
  refused st = so

  counted : (member seq : ℕ) (reply : VbReply) (said : VbAnswer) → Asks (counted_by f member seq reply said s)
  counted member seq reply (answer.Status st) = refused st
  counted member seq reply other =
      ask_more s.events (counted_line s.end.desk f member seq ∷ map (Event.Changed s.end.desk.node f.vb_or_status reply.branch) reply.changes) so (tt, changed_ask s.end.desk.node f.vb_or_status reply.branch reply.changes)

  count : (member seq : ℕ) (reply : Option VbReply) → Asks (count_answered f member seq s reply)
  count member seq None = refused Status.NotMyVbucket
  count member seq (Some reply) = counted member seq reply reply.answer

  weight : (seq : ℕ) (weighed : Result ℕ Status) → Always AnyCall Asks (count_requested f seq s weighed)
  weight seq (Err st) = refused st
  weight seq (Ok member) = (tt, λ reply any. count member seq reply)

  -- an acknowledgement
  acked : (seq : ℕ) → Always AnyCall Asks (acknowledged f seq s)
  unfolding acknowledged
  acked seq = by (is_open s.end.handshake)
    where
      weight_of : Result ℕ Status
      weight_of = weighed seq (fed_stream s.end.desk.stream (stream_at f.vb_or_status s.end.streams)) (member_of s.end.handshake)

      by : (b : Bool) → Always AnyCall Asks (if b then count_requested f seq s weight_of else Done (status_sent f Status.Einval s))
      by true = weight seq weight_of
      by false = refused Status.Einval

  -- a request for a stream
  module _ (ask : StreamAsk) (flags : ask.flags ≡ 1) (end : ask.end ≡ 2 ^ 64 - 1) where
    line_asks : (name : StreamName) (n v high : ℕ) (log : List LogEntry) (said : AskAnswer) → AsksSo (Event.Asked name n v ask high log said)
    line_asks (StreamName.Link k) n v high log said = (flags, end)
    line_asks (StreamName.Client m c) n v high log said = tt

    told : (to : PlainProducer) (log : List LogEntry) (high : ℕ) (said : AskAnswer) → Asks (stream_answered f ask (record s { end = to }) log high said)
    unfolding stream_answered
    told to log high said = let line : Event = Event.Asked to.desk.stream to.desk.node f.vb_or_status ask high log said in ask_more s.events (line ∷ []) so (line_asks to.desk.stream to.desk.node f.vb_or_status high log said, tt)

    asked : Always AnyCall Asks (stream_request f ask s)
    unfolding stream_request
    asked = by (opens s.end f.vb_or_status ask)
      where
        by : (b : Bool) → Always AnyCall Asks (if b then opening_requested f ask s else refusal_requested f ask s)
        by true = (tt, λ reply any. told (with_granted (with_asked s.end) (next_stream s.end) f ask (place_of_reply reply) (ask_verdict reply)) (log_of_reply reply) (high_of_reply reply) (ask_verdict reply))
        by false = (tt, λ reply any. told s.end (log_of_reply reply) (high_of_reply reply) _)

-- ---- the frames of the link

no_frames : {A : Type 0} (f : Frame) (fs : List Frame) → [] ≡ f ∷ fs → A
no_frames f fs e = cc

module _ (stays : StaysSound) (steady : Steady) (w : PlainWorld) (r : Chronicle) (n : ℕ) (link : PlainLink) (found : row_at link_number (link_number link) w.links ≡ Some link) (noted : (r.takeover_of (link_number link)).dialed ≡ link.consumer.dialed.takeover) (takes : link.consumer.dialed.takeover ≡ true) where
  abbrev l : ℕ
  l = link_number link

  abbrev o : ℕ
  o = link.consumer.asked

  abbrev v : ℕ
  v = link.consumer.dialed.vb

  module _ (f : Frame) (fs : List Frame) (x : PlainNode × PeerResult) (now : Now w r n link found (f ∷ fs) x) where
    abbrev s : Served
    s = begun x.1.peer.producer

    abbrev la : LinkAgrees (world_at w r n link found x) (after_lines r x.1.events) now.cluster (served_at w r n link found x.1) (f ∷ fs) []
    la = link_now w r n link found (f ∷ fs) x now

    -- what its answer tells
    abbrev ComesTo : Prog Served → Type 0
    ComesTo prog = AllAsk (after prog x.0.vbs).1.events

    abbrev Comes : Type 0
    Comes = ComesTo (frame_answered f s)

    comes_by : (prog : Prog Served) → frame_answered f s ≡ prog → ComesTo prog → Comes
    comes_by prog e came = subst ComesTo (sym e) came

    -- of a consumer with a stream
    upward : (wrote : List ℕ) (answers : List Frame) → UpwardIs wrote o v answers la.talk.asked → s.end.handshake ≡ set_after link.consumer.dialed (first_count link.consumer.dialed) → Comes
    upward wrote answers acks server = by (upward_front wrote o v answers f (fs ++ la.talk.ups.behind) (subst (UpwardIs wrote o v answers) la.talk.ups.joined acks))
      where
        by : IsUpward wrote o v f → Comes
        by (inl (inl (seq, is, low, one))) =
            let g : Frame = dcp_frame (DcpMsg.SeqnoAcknowledged seq) o v in
            comes_by (acknowledged g seq s) (ap (λ h. frame_answered h s) is ∙ ack_answered o v seq s low) (after_always AnyCall (λ (s' : Served). AllAsk s'.events) (acknowledged g seq s) x.0.vbs (acked g s tt seq))
        by (inl (inr (bytes, is, low))) =
            let g : Frame = dcp_frame (DcpMsg.BufferAcknowledgement bytes) o 0 in let named : Named = Named.Member link.consumer.dialed.node in
            comes_by (Done (record s { end = passed_end s g bytes true named })) (ap (λ h. frame_answered h s) is ∙ bytes_answered o bytes s true named low (server ∙ all_set link.consumer.dialed)) tt
        by (inr is) = comes_by (Done (record s { end = heard_end o s.end })) (ap (λ h. frame_answered h s) is ∙ state_heard o s) tt

    -- of one that asks
    module _ (ask : StreamAsk) (none : IsUnsaid ((after_lines r x.1.events).stream_of (StreamName.Link l) v) ((after_lines r x.1.events).stated_of l)) (t : AskingNow w r n link found f fs x now ask) where
      first_comes : (k : ℕ) → t.answered ≡ k → k < first_count link.consumer.dialed → Comes
      first_comes k is few =
          let at : ServedAt 1 k (suc k) Handshake.Fresh (firsts link.consumer.dialed) = first_served link.consumer.dialed k la.small.0 la.small.2 few in
          let g : Frame = dcp_frame at.row.request (suc k) 0 in let a : Frame = dcp_frame at.row.answer (suc k) 0 in
          let came : Succeeds s g a at.row.set = at.served.succeeds s (t.server ∙ ap (set_after link.consumer.dialed) is) in
          let request : List Frame = dcp_frame (DcpMsg.StreamRequest ask) o v ∷ [] in
          let e : g ∷ (at.asked.0 ++ request) ≡ f ∷ (fs ++ la.talk.ups.behind) = sym (goes_on_before k (asks_from 1 (firsts link.consumer.dialed)) request g at.asked.0 at.asked.1) ∙ next_frame w r n link found f fs x now ask none t k is in
          let same : g ≡ f = cc in
          comes_by (Done (with_frame (record s { end = came.end }) a)) (ap (λ h. frame_answered h s) (sym same) ∙ came.came) tt

      request_comes : (last : t.answered ≡ first_count link.consumer.dialed) → Comes
      request_comes last =
          let g : Frame = dcp_frame (DcpMsg.StreamRequest ask) o v in
          let e : g ∷ [] ≡ f ∷ (fs ++ la.talk.ups.behind) = sym (request_last o link.consumer.dialed ask) ∙ next_frame w r n link found f fs x now ask none t (first_count link.consumer.dialed) last in
          let same : g ≡ f = cc in
          let range = in_range w r n link found f fs x now ask none t last (ap (λ k. (k l).dialed) (lines_takeovers r x.1.events) ∙ noted) in
          comes_by (stream_request g ask s) (ap (λ h. frame_answered h s) (sym same) ∙ request_answered o v ask s range) (after_always AnyCall (λ (s' : Served). AllAsk s'.events) (stream_request g ask s) x.0.vbs (asked g s tt ask
          (ap (λ (k : StreamAsk). k.flags) t.asks ∙ ap (λ b. if b then 1 else 0) takes) (ap (λ (k : StreamAsk). k.end) t.asks)))

      asking : Comes
      asking = ⊎_elim (λ few. first_comes t.answered refl few) (λ all. request_comes (let most : t.answered ≤ first_count link.consumer.dialed = t.some_left in omega arith)) (cases_lt t.answered (first_count link.consumer.dialed))

    frame_comes : Comes
    frame_comes = by la.talk.stands
      where
        by : EndsStand (wants_of la.follower) (now.cluster.nodes (consumer_seat link)) (vb_of (world_at w r n link found x) (producer_node (served_at w r n link found x.1)) link.consumer.dialed.vb)
            (now.cluster.nodes (producer_seat (served_at w r n link found x.1))) ((after_lines r x.1.events).stream_of (StreamName.Link l) link.consumer.dialed.vb) ((after_lines r x.1.events).stated_of l) ((after_lines r x.1.events).point_of l) x.1.peer.producer link.consumer la.talk.asked (spoken la.talk.said)
            → Comes
        by (EndsStand.IsAsking ask none t) = asking ask none t
        by (EndsStand.IsRefusedYet none t) = no_frames f (fs ++ la.talk.ups.behind) (sym t.asked_is ∙ la.talk.ups.joined)
        by (EndsStand.IsStreaming t said) = upward t.granted_is.wrote (answers_in o t.handing) t.acks t.server
        by (EndsStand.IsHeir t said) = upward t.granted_is.wrote (heir_answers o t.answered) t.acks t.server

    -- with what is posted behind it
    abbrev came : States × Served
    came = after (frame_answered f s) x.0.vbs

    abbrev posts : List Event
    posts = (all_posted came.1.resolved (with_states x.0 came.0)).1

    posts_ask : AllAsk posts
    posts_ask = all_beside_ask posts (are_posts is_beside (producer_node link) (client_beside (producer_node link)) came.1.resolved (with_states x.0 came.0) now.ranged.own)

    one_more : AllAsk x.1.events → AllAsk (frame_up f x).1.events
    one_more before = subst (λ (y : PlainNode × PeerResult). AllAsk y.1.events) (sym (frame_came w r n link found f x)) (ask_more x.1.events (came.1.events ++ posts) before (ask_more came.1.events posts frame_comes posts_ask))

  all_more : (fs : List Frame) (x : PlainNode × PeerResult) → Now w r n link found fs x → AllAsk x.1.events → AllAsk (frames_up fs x).1.events
  all_more [] x now before = before
  all_more (f ∷ fs) x now before = all_more fs (frame_up f x) (one_answered stays steady w r n link found noted f fs x now) (one_more f fs x now before)

  module _ (node : PlainNode) (known : w.nodes (producer_node link) ≡ Some node) (ranged : NodeRanged (producer_node link) node) (calm : AllDurable r.made) (a : Agrees w r) where
    abbrev begin : PlainNode × PeerResult
    begin = first stays steady w r n link found noted node known ranged

    asks_up : AllAsk (frames_up (frames_in (come link n)) begin).1.events
    asks_up = all_more (frames_in (come link n)) begin (first_now stays steady w r n link found noted node known ranged calm a) tt

-- ---- the line

-- its lines of a link that was dialed for a takeover, whichever link that is
hands_from : (r : Chronicle) (l : ℕ) (takeovers : ℕ → TakeoverKnown) (lines : List Event) → r.takeover_of ≡ takeovers → are_all (is_calm l) lines ≡ true → ((takeovers l).dialed ≡ true → AllAsk lines) → TakeoverFrom r lines
hands_from r l takeovers [] same a asks = tt
hands_from r l takeovers (line ∷ lines) same a asks =
    let p = and_parts (is_calm l line) (are_all (is_calm l) lines) a in
    (one line p.0 (λ d. (asks d).0), hands_from (after_line r line) l takeovers lines (line_takeovers r line ∙ same) p.1 (λ d. (asks d).1))
  where
    one : (line : Event) → is_calm l line ≡ true → ((takeovers l).dialed ≡ true → AsksSo line) → TakeoverLine r line
    one (Event.Asked (StreamName.Link k) n v ask high log said) e so = λ dial t. so (ap (λ j. (takeovers j).dialed) (sym (eqb-true k l e)) ∙ ap (λ h. (h k).dialed) (sym same) ∙ t.1)
    one (Event.Marked (StreamName.Link k) start end flags) e so = cc
    one (Event.Finished (StreamName.Link k) why) e so = cc
    one (Event.Ended k why) e so = cc
    one other e so = tt

pub up_hands : StaysSound → Steady → (w : PlainWorld) (r : Chronicle) (l wanted : ℕ) → IsRanged w → AllDurable r.made → AllNoted w r → Agrees w r
    → (let o = on_link w l producer_node (up_at wanted) in TellsOf r (Verb.AtLink l (LinkVerb.Up wanted)) o.1.events → HandsOver r (Verb.AtLink l (LinkVerb.Up wanted)) o.1.events o.1.answer)
up_hands stays steady w r l wanted ranged calm noted a t = record { tells = inl t; each = hands_from r l r.takeover_of lines refl (all_calm l r wanted lines t) asks; pumps = tt }
  where
    lines : List Event
    lines = (on_link w l producer_node (up_at wanted)).1.events

    one : (link : PlainLink) (node : PlainNode) → row_at link_number (link_number link) w.links ≡ Some link → w.nodes (producer_node link) ≡ Some node → (r.takeover_of (link_number link)).dialed ≡ true → AllAsk (up_at wanted link node).1.1.events
    one link node found known d =
        let is = (found_is_link (link_number link) w.links link found).0 in let told = (noted link is).dialed in
        asks_up stays steady w r (moved_len wanted link.up) link found told (sym told ∙ d) node known (subst (NodeRangedIf (producer_node link)) known (ranged (producer_node link))) calm a

    Asking : ℕ → Outcome → Type 0
    Asking k o = (r.takeover_of k).dialed ≡ true → AllAsk o.1.events

    at : (link : PlainLink) → row_at link_number (link_number link) w.links ≡ Some link → (o : Option PlainNode) → w.nodes (producer_node link) ≡ o
        → Asking (link_number link) (with_link link (node_outcome w (producer_node link) (Some link, refusal Cause.UnknownNode) o (up_at wanted link)))
    at link found None e = λ d. tt
    at link found (Some node) e = one link node found e

    by : (o : Option PlainLink) → row_at link_number l w.links ≡ o → Asking l (link_outcome w l producer_node (up_at wanted) o)
    by None e = λ d. tt
    by (Some link) e = let same = (found_is_link l w.links link e).1 in
        subst (λ k. Asking k (link_outcome w k producer_node (up_at wanted) (Some link))) same (at link (ap (λ k. row_at link_number k w.links) same ∙ e) (w.nodes (producer_node link)) refl)

    asks : (r.takeover_of l).dialed ≡ true → AllAsk lines
    asks = by (row_at link_number l w.links) refl
