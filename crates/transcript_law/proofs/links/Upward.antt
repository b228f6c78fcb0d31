-- lines that move a consumer's bytes to its producer, which answers the frames that came whole
use Rattle.std.specs.Prelude.{◌≡◌, ◌<◌, ◌≤◌, ◌+◌, ◌^◌, ◌∷◌, ◌++◌, ◌==◌, if◌then◌else◌}
use Rattle.{dcp_producer.specs.Producers.{is_client}, takeover.specs.declared.take_over.TakeOver.{TakeOver}}
use Rattle.{dcp_consumer.specs.declared.handshake.Dialed.{Dialed}, dcp_producer.specs.declared.desk.Named.{Named}, dcp_producer.specs.Serving.{next_stream, with_asked}, transcript_law.specs.Feeding.{HasOpen}}
use Rattle.node_world.specs.Links.{frame_up, result_behind, peer_posted as node_told}
use Rattle.transcript_law.proofs.disks.Disks.{beside_in}
use Rattle.transcript_law.proofs.Words.{ℕ, suc, Bool, true, false, List, [], drop, refl, ap, sym, ◌∙◌, subst, arith, append_assoc, cases_lt, inr, ⊎_elim, Option, Some, None, eq-eqb, ne_eqb, eqb-true, eqb-false}
use Rattle.transcript_law.proofs.Words.{Frame, spelling, left_of, dcp_frame, AskAnswer, AskInRange, LogEntry, StreamAsk, Status, Verdict, Continue, Roll, effective_se, rule, request_of, Plain, Position, Role, is_follower, nat_lt, Done, after, after_bind, row_at, row_put, States}
use Rattle.transcript_law.proofs.Words.{Member, Cluster, Move, happens, May, keeps, answered, Handshake, PlainProducer, Served, begun, frame_answered, refuse, is_active, stream_at, open_refusal, new_stream}
use Rattle.transcript_law.proofs.Words.{PeerResult, peer_result, PlainLink, link_number, producer_node, consumer_node, PlainNode, PlainWorld, with_states, with_node_at, with_links, with_up, vb_in, Granted, granted, Chronicle, after_ask, after_line, after_lines}
use Rattle.transcript_law.proofs.Words.{LawfulAsk, LawfulLine, LawfulVerdict, IsDialed, with_stream, DcpMsg, Event, StreamName}
use Rattle.transcript_law.proofs.invariant.Agreement.{AckedIs, FollowsBy, IsUnsaid, power_of, vb_of, shelf_of, answer_frame, spoken, Asking, IsRefused, PointAgrees, Talk, consumer_seat, producer_seat, LinkAgrees, AgreesIn, wants_of, DialAgrees, VbAgrees, AgreesAt, top}
use Rattle.transcript_law.proofs.{disks.Absent.{nothing_here}, invariant.Carried.{told_of_same, one_here, one_but, no_writer, talk_same}, invariant.Carrying.{Became, FeedChanged, SamePowers, ToldOf}, invariant.LinkRows.{found_is_link, put_is_found, put_twice}}
use Rattle.transcript_law.proofs.{verbs.NodeLines.{powers_again, shelves_again}, invariant.OneLink.{mine, carries_link, put_here, put_there, carries_producer, disk_here, disk_there}, invariant.Ranged.{NodeRanged}, invariant.Resting.{not_down}, invariant.Seats.{seat}}
use Rattle.transcript_law.proofs.{links.Spoken.{message_spoken}, invariant.Tables.{id_here, id_there, stream_here, stream_there}, lines.Telling.{LawfulBefore, before_more, none_before, told_more, one_before}}
use Rattle.transcript_law.proofs.{links.Firsts.{ServedAt, Succeeds, asks_from, first_count, firsts, goes_on_before, request_frames, set_after}, links.Requests.{first_served, request_last}, links.Talks.{come, next_asking}, links.Unread.{answering}, links.Reached.{continues_reached}}
use Rattle.transcript_law.proofs.links.Answered.{flags_known, told_line, refused_told, StatesAre, granted_lines, absent_asked, refused_asked, rolled_asked, granted_asked, refused_talk, asked_opened, granted_talk, streams_opened}
use Rattle.transcript_law.specs.{LawfulAnswers.{AllDurable}, Lawfulness.{GrantsAs}}
use Rattle.transcript_law.proofs.links.Verdicts.{IsFlagged, active_vb_lines, asks_in_range, flags_in_range, flags_told, roll_low, refusal_named, opens_active, opens_free, absent_lawful, own_lawful, ruled_there, go_lawful, roll_lawful}
use Rattle.transcript_law.proofs.invariant.Owing.{later_same}

-- an answer that grants nothing tells of no stream
unasked : (r : Chronicle) (l v q : ℕ) (ask : StreamAsk) (log : List LogEntry) (said : AskAnswer) → IsRefused said → (after_ask r l v ask log said).stream_of (StreamName.Link l) q ≡ r.stream_of (StreamName.Link l) q
unasked r l v q ask log AskAnswer.Go refused = absurd refused
unasked r l v q ask log (AskAnswer.Roll to) refused = refl
unasked r l v q ask log (AskAnswer.Refuse code) refused = refl

-- nor does any answer tell of a state
unstated : (r : Chronicle) (l v : ℕ) (ask : StreamAsk) (log : List LogEntry) (said : AskAnswer) → (after_ask r l v ask log said).stated_of ≡ r.stated_of
unstated r l v ask log AskAnswer.Go = refl
unstated r l v ask log (AskAnswer.Roll to) = refl
unstated r l v ask log (AskAnswer.Refuse code) = refl

-- or of a change
asked_made : (r : Chronicle) (l v : ℕ) (ask : StreamAsk) (log : List LogEntry) (said : AskAnswer) → (after_ask r l v ask log said).made ≡ r.made
asked_made r l v ask log AskAnswer.Go = refl
asked_made r l v ask log (AskAnswer.Roll to) = refl
asked_made r l v ask log (AskAnswer.Refuse code) = refl

-- an answer that grants nothing tells of the link's point at most, and that it is the one that it says
refused_told_of : (l v : ℕ) (r : Chronicle) (ask : StreamAsk) (log : List LogEntry) (said : AskAnswer) → IsRefused said
    → (let r' = after_ask r l v ask log said in ToldOf l r r' × (r'.dial_of l ≡ r.dial_of l) × PointAgrees said (r'.point_of l))
refused_told_of l v r ask log AskAnswer.Go refused = absurd refused
refused_told_of l v r ask log (AskAnswer.Roll to) refused = (
  record { last = later_same _ _ refl refl; tree = refl; writer_of = λ u. refl; rows = λ m q. refl; arms = λ m. refl; clients = λ m c. refl; dials = λ j ne. refl; streams = λ k q ne. refl; states = λ k ne. refl; points = λ k ne. id_there r.point_of l (Some to) k (λ e. ne (sym e)) },
  refl,
  id_here r.point_of l (Some to),
)
refused_told_of l v r ask log (AskAnswer.Refuse code) refused = (told_of_same l r, refl, tt)

-- nodes that differ in their vBuckets at most
pub record SameNode (node node' : PlainNode) : Type 0 where
  pub shelves : (q : ℕ) → node'.shelves q ≡ node.shelves q
  pub power : beside_in (Some node') ≡ beside_in (Some node)

module _ (w0 : PlainWorld) (r0 : Chronicle) (n : ℕ) (link0 : PlainLink) (found : row_at link_number (link_number link0) w0.links ≡ Some link0) where
  -- the link's number, its producer's node and its vBucket
  abbrev l : ℕ
  l = link_number link0

  abbrev m : ℕ
  m = producer_node link0

  abbrev v : ℕ
  v = link0.consumer.dialed.vb

  -- the link with what its producer's end made of the frames so far
  abbrev pub served_at : PeerResult → PlainLink
  served_at told = with_up link0 n told

  -- the world in which the producer's node is this one
  abbrev pub world_at : PlainNode × PeerResult → PlainWorld
  world_at x = with_links (with_node_at w0 m x.0) (row_put link_number l (served_at x.1) w0.links)

  -- so far all agrees, no set and no removal waits to be answered, and these frames are about to be
  pub record Now (fs : List Frame) (x : PlainNode × PeerResult) : Type 0 where
    pub cluster : Cluster
    pub lawful : LawfulBefore r0 x.1.events
    pub agrees : AgreesIn (answering l fs) (world_at x) (after_lines r0 x.1.events) cluster
    pub calm : AllDurable (after_lines r0 x.1.events).made
    pub desk : x.1.peer.producer.desk ≡ link0.server.desk
    pub heard : x.1.peer.heard ≡ left_of (come link0 n)
    pub ranged : NodeRanged m x.0

  pub vb_here : (x : PlainNode × PeerResult) (q : ℕ) → vb_of (world_at x) m q ≡ x.0.vbs q
  vb_here x q = ap (λ b. vb_in (if b then Some x.0 else w0.nodes m) q) (eq-eqb m m refl)

  pub vb_there : (x : PlainNode × PeerResult) (k q : ℕ) → (k ≡ m → ⊥) → vb_of (world_at x) k q ≡ vb_in (w0.nodes k) q
  vb_there x k q ne = ap (λ b. vb_in (if b then Some x.0 else w0.nodes k) q) (ne_eqb k m ne)

  pub same_vbs : (x y : PlainNode × PeerResult) → ((q : ℕ) → y.0.vbs q ≡ x.0.vbs q) → (k q : ℕ) → vb_of (world_at y) k q ≡ vb_of (world_at x) k q
  same_vbs x y same k q = by (k == m)
    where
      by : (b : Bool) → vb_in (if b then Some y.0 else w0.nodes k) q ≡ vb_in (if b then Some x.0 else w0.nodes k) q
      by true = same q
      by false = refl

  pub same_shelves : (x y : PlainNode × PeerResult) → SameNode x.0 y.0 → (k q : ℕ) → shelf_of (world_at y) k q ≡ shelf_of (world_at x) k q
  same_shelves x y same = shelves_again w0 m x.0 y.0 same.shelves

  pub same_powers : (x y : PlainNode × PeerResult) → SameNode x.0 y.0 → SamePowers (world_at x) (world_at y)
  same_powers x y same = powers_again w0 m x.0 y.0 same.power

  pub found_at : (x : PlainNode × PeerResult) → row_at link_number l (world_at x).links ≡ Some (served_at x.1)
  found_at x = put_is_found l w0.links link0 (served_at x.1) found refl

  pub links_at : (x y : PlainNode × PeerResult) → (world_at y).links ≡ row_put link_number l (served_at y.1) (world_at x).links
  links_at x y = sym (put_twice l w0.links (served_at x.1) (served_at y.1) refl)

  pub link_now : (fs : List Frame) (x : PlainNode × PeerResult) (now : Now fs x) → LinkAgrees (world_at x) (after_lines r0 x.1.events) now.cluster (served_at x.1) fs []
  link_now fs x now =
      let r = after_lines r0 x.1.events in
      subst (λ p. LinkAgrees (world_at x) r now.cluster (served_at x.1) p.0 p.1) (one_here l (fs, []))
      (mine (answering l fs) (world_at x) r r now.cluster now.cluster l (served_at x.1) now.agrees (found_at x))

  -- a frame was answered, which made this of the vBuckets and the producer, told these lines and put these bytes
  abbrev pub answered_at : PlainNode × PeerResult → States → PlainProducer → List Event → List ℕ → PlainNode × PeerResult
  answered_at x st end lines out =
      (with_states x.0 st, record { peer = record { heard = x.1.peer.heard; producer = end }; events = x.1.events ++ lines; out = x.1.out ++ out; resolved = [] })

  -- a step after which each vBucket is as it was, and that tells of no stream
  module _ (fs gs : List Frame) (x : PlainNode × PeerResult) (now : Now fs x) (st : States) (same : (q : ℕ) → st q ≡ x.0.vbs q) (end : PlainProducer) (lines : List Event) (out : List ℕ) (desk : end.desk ≡ x.1.peer.producer.desk)
      (no_stream : (q id : ℕ) → HasOpen q id end.streams → HasOpen q id x.1.peer.producer.streams) (lawful : LawfulBefore (after_lines r0 x.1.events) lines) (r' : Chronicle) (told : after_lines (after_lines r0 x.1.events) lines ≡ r')
      (known_of : ToldOf l (after_lines r0 x.1.events) r') (dial : r'.dial_of l ≡ (after_lines r0 x.1.events).dial_of l) (stream : r'.stream_of (StreamName.Link l) v ≡ (after_lines r0 x.1.events).stream_of (StreamName.Link l) v) (state : r'.stated_of l ≡ (after_lines r0 x.1.events).stated_of l) (made : r'.made ≡ (after_lines r0 x.1.events).made) where
    abbrev y : PlainNode × PeerResult
    y = answered_at x st end lines out

    pub quiet_at : Talk (link_now fs x now).follower (now.cluster.nodes (consumer_seat link0)) (vb_of (world_at y) end.desk.node v) (now.cluster.nodes (producer_seat (served_at y.1))) (r'.stream_of (StreamName.Link l) v) (r'.stated_of l) (r'.point_of l) (served_at y.1) gs [] → Now gs y
    quiet_at talk =
        let r = after_lines r0 x.1.events in
        let c = now.cluster in
        let la = link_now fs x now in
        let lb : LinkAgrees (world_at y) r' c (served_at y.1) gs [] = record {
          follower = la.follower;
          follower_is = same_vbs x y same (consumer_node link0) v ∙ la.follower_is;
          follows = la.follows;
          acks = subst (λ o. AckedIs o link0.consumer.acked) (sym stream) la.acks;
          dial = subst (λ o. DialAgrees o end.desk link0.consumer.dialed) (sym dial) (subst (λ d. DialAgrees ((after_lines r0 x.1.events).dial_of l) d link0.consumer.dialed) (sym desk) la.dial);
          talk = talk;
        } in
        let agrees : AgreesIn (answering l gs) (world_at y) r' c =
        carries_link (answering l fs) (answering l gs) (world_at x) (world_at y) r r' c l (served_at x.1) (served_at y.1) now.agrees (found_at x)
        (record { dialed = refl; desk = desk }) (record { powers = same_powers x y (record { shelves = λ q. refl; power = refl }); vbs = same_vbs x y same; shelves = same_shelves x y (record { shelves = λ q. refl; power = refl }); uuids = refl; linked = links_at x y }) no_stream known_of (one_but l (fs, []) (gs, []))
        (subst (λ p. LinkAgrees (world_at y) r' c (served_at y.1) p.0 p.1) (sym (one_here l (gs, []))) lb) in
        record {
          cluster = c;
          lawful = before_more r0 x.1.events lines now.lawful lawful;
          agrees = subst (λ z. AgreesIn (answering l gs) (world_at y) z c) (sym (told_more r0 x.1.events lines ∙ told)) agrees;
          calm = subst AllDurable (sym (ap (λ (k : Chronicle). k.made) (told_more r0 x.1.events lines ∙ told) ∙ made)) now.calm;
          desk = desk ∙ now.desk;
          heard = now.heard;
          ranged = record { clock = now.ranged.clock; clients = now.ranged.clients; own = now.ranged.own; runs = now.ranged.runs };
        }

    -- where the link's ends stand so whatever the vBuckets at them are
    pub quiet : ((kn : Member) (pv : Option Plain) (leader : Member) (g : Option Granted) (said : Option Role) → g ≡ r'.stream_of (StreamName.Link l) v → said ≡ r'.stated_of l → Talk (link_now fs x now).follower kn pv leader g said (r'.point_of l) (served_at y.1) gs []) → Now gs y
    quiet talk = quiet_at (talk (now.cluster.nodes (consumer_seat link0)) (vb_of (world_at y) end.desk.node v) (now.cluster.nodes (producer_seat (served_at y.1))) (r'.stream_of (StreamName.Link l) v) (r'.stated_of l) refl refl)

  -- what the frame makes of the node and the connection, by the program that answers it
  abbrev pub came_of : PlainNode × PeerResult → States × Served → PlainNode × PeerResult
  came_of x y = result_behind x.1 (node_told x.0 (y.0, peer_result x.1.peer.heard y.1))

  pub frame_came : (f : Frame) (x : PlainNode × PeerResult) → frame_up f x ≡ came_of x (after (frame_answered f (begun x.1.peer.producer)) x.0.vbs)
  frame_came f x = ap (λ y. result_behind x.1 (node_told x.0 y)) (after_bind (frame_answered f (begun x.1.peer.producer)) (λ s. Done (peer_result x.1.peer.heard s)) x.0.vbs)

  -- where the link stands with a frame about to be answered
  abbrev pub TalkNow : (f : Frame) (fs : List Frame) (x : PlainNode × PeerResult) → Now (f ∷ fs) x → Type 0
  TalkNow f fs x now = Talk (link_now (f ∷ fs) x now).follower (now.cluster.nodes (consumer_seat link0)) (vb_of (world_at x) (producer_node (served_at x.1)) v) (now.cluster.nodes (producer_seat (served_at x.1)))
      ((after_lines r0 x.1.events).stream_of (StreamName.Link l) v) ((after_lines r0 x.1.events).stated_of l) ((after_lines r0 x.1.events).point_of l) (served_at x.1) (f ∷ fs) []

  abbrev pub AskingNow : (f : Frame) (fs : List Frame) (x : PlainNode × PeerResult) → Now (f ∷ fs) x → StreamAsk → Type 0
  AskingNow f fs x now ask = let la = link_now (f ∷ fs) x now in Asking (wants_of la.follower) ask (served_at x.1).server (served_at x.1).consumer la.talk.asked (spoken la.talk.said)

  -- what is answered with success
  module _ (f : Frame) (fs : List Frame) (x : PlainNode × PeerResult) (now : Now (f ∷ fs) x) (ask : StreamAsk) (none : IsUnsaid ((after_lines r0 x.1.events).stream_of (StreamName.Link l) v) ((after_lines r0 x.1.events).stated_of l)) (t : AskingNow f fs x now ask) where
    -- the producer as it begins to answer
    abbrev s : Served
    s = begun x.1.peer.producer

    abbrev la : LinkAgrees (world_at x) (after_lines r0 x.1.events) now.cluster (served_at x.1) (f ∷ fs) []
    la = link_now (f ∷ fs) x now

    abbrev frames : List Frame
    frames = request_frames link0.consumer.asked link0.consumer.dialed ask

    small : consumer_node link0 < 16
    small = la.small.0

    abbrev talk_now : TalkNow f fs x now
    talk_now = la.talk

    pub next_frame : (k : ℕ) → t.answered ≡ k → drop k frames ≡ f ∷ (fs ++ talk_now.ups.behind)
    next_frame k is = sym (ap (λ j. drop j frames) is) ∙ sym t.asked_is ∙ talk_now.ups.joined

    -- one of the first requests
    success : (k : ℕ) → t.answered ≡ k → k < first_count link0.consumer.dialed → Now fs (frame_up f x)
    success k is few =
        let d : Dialed = link0.consumer.dialed in
        let at : ServedAt 1 k (suc k) Handshake.Fresh (firsts d) = first_served d k small la.small.2 few in
        let g : Frame = dcp_frame at.row.request (suc k) 0 in let a : Frame = dcp_frame at.row.answer (suc k) 0 in
        let came : Succeeds s g a at.row.set = at.served.succeeds s (t.server ∙ ap (set_after d) is) in
        let request : List Frame = dcp_frame (DcpMsg.StreamRequest ask) link0.consumer.asked v ∷ [] in
        let here : drop k frames ≡ g ∷ (at.asked.0 ++ request) = goes_on_before k (asks_from 1 (firsts d)) request g at.asked.0 at.asked.1 in
        let e : g ∷ (at.asked.0 ++ request) ≡ f ∷ (fs ++ talk_now.ups.behind) = sym here ∙ next_frame k is in
        let same : g ≡ f = cc in
        let r = after_lines r0 x.1.events in
        subst (Now fs) (sym (frame_came f x ∙ ap (λ h. came_of x (after (frame_answered h s) x.0.vbs)) (sym same) ∙ ap (λ p. came_of x (after p x.0.vbs)) came.came))
        (quiet (f ∷ fs) fs x now x.0.vbs (λ q. refl) came.end [] (spelling a) came.desk (λ q id has. subst (HasOpen q id) came.streams has) (none_before r) r refl
        (told_of_same l r) refl refl refl refl
        (λ kn pv leader g' said told last. next_asking (served_at x.1) came.end (link0.down ++ (x.1.out ++ spelling a)) a la.follower kn pv leader g' said (told ∙ none.0, last ∙ none.1) (r.point_of l) ask f g fs talk_now.asked talk_now.said k t
        talk_now.ups talk_now.downs (sym (append_assoc link0.down x.1.out (spelling a))) came.streams came.asked at.served.says (message_spoken at.row.answer (suc k) 0) is few (came.set_is ∙ sym at.set)
        (at.asked.0 ++ request, here) at.said))

    -- the request for a stream, refused
    pub refuse_last : t.answered ≡ first_count link0.consumer.dialed → (st : States) → ((q : ℕ) → st q ≡ x.0.vbs q) → (log : List LogEntry) (high : ℕ) (said : AskAnswer) → IsRefused said
        → LawfulAsk (after_lines r0 x.1.events) l s.end.desk.node v ask high log said → Now fs (came_of x (st, refused_told s link0.consumer.asked v ask log high said))
    refuse_last is st same log high said refused lawful =
        let r = after_lines r0 x.1.events in
        let known_of = refused_told_of l v r ask log said refused in
        quiet (f ∷ fs) fs x now st same (with_asked s.end) (told_line s v ask log high said ∷ []) (spelling (answer_frame link0.consumer.asked [] said)) refl (λ v id has. has)
        (one_before r [] (told_line s v ask log high said) (none_before r)
        (λ behind. subst (λ nm. LawfulLine r (Event.Asked nm s.end.desk.node v ask high log said) behind) (sym la.named) lawful))
        (after_ask r l v ask log said)
        (ap (λ nm. after_line r (Event.Asked nm s.end.desk.node v ask high log said)) la.named)
        known_of.0 known_of.1 (unasked r l v v ask log said refused) (ap (λ states. states l) (unstated r l v ask log said)) (asked_made r l v ask log said)
        (λ kn pv leader g state told last. refused_talk la.follower ask (served_at x.1) (link0.down ++ (x.1.out ++ spelling (answer_frame link0.consumer.asked [] said))) f fs talk_now.asked talk_now.said t is talk_now.ups talk_now.downs kn pv leader g state (told ∙ unasked r l v v ask log said refused ∙ none.0, last ∙ ap (λ states. states l) (unstated r l v ask log said) ∙ none.1) said refused
        ((after_ask r l v ask log said).point_of l) known_of.2 (sym (append_assoc link0.down x.1.out (spelling (answer_frame link0.consumer.asked [] said)))))

    -- the request for a stream, which the producer's vBucket decides
    module _ (last : t.answered ≡ first_count link0.consumer.dialed) (noted : ((after_lines r0 x.1.events).takeover_of l).dialed ≡ link0.consumer.dialed.takeover) where
      abbrev o : ℕ
      o = link0.consumer.asked

      abbrev link : PlainLink
      link = served_at x.1

      abbrev r : Chronicle
      r = after_lines r0 x.1.events

      abbrev c : Cluster
      c = now.cluster

      -- the node of the producer's vBucket, that of the consumer's, and their members of the cluster
      abbrev mp : ℕ
      mp = s.end.desk.node

      abbrev nn : ℕ
      nn = consumer_node link0

      abbrev p : ℕ
      p = seat mp v

      abbrev k : ℕ
      k = seat nn v

      follower : VbAgrees r nn v (c.nodes k) la.follower
      follower = subst (AgreesAt r nn v (c.nodes k)) la.follower_is (now.agrees.vbs nn v)

      -- the link was dialed for this vBucket
      dialed_there : IsDialed r l mp v
      dialed_there = (nn, la.dialed)

      -- its flags are those of the dial
      flagged_so : IsFlagged r l ask
      flagged_so = flags_told r l link0.consumer.dialed.takeover ask (request_of la.follower.log la.follower.position) noted t.asks

      linked : is_client s.end.desk.stream ≡ false
      linked = ap is_client la.named

      pub in_range : AskInRange ask
      in_range = subst AskInRange (sym t.asks) (flags_in_range link0.consumer.dialed.takeover (request_of la.follower.log la.follower.position) (asks_in_range la.follower follower.sound follower.entries))

      in_order : ask.ss ≤ ask.start
      in_order = subst (λ (a : StreamAsk). a.ss ≤ a.start) (sym t.asks) follower.sound.within.0

      known_there : (o : Option Plain) → x.0.vbs v ≡ o → vb_of (world_at x) mp v ≡ o
      known_there o known = ap (λ d. vb_of (world_at x) d.node v) now.desk ∙ vb_here x v ∙ known

      module _ (pv : Plain) (known : x.0.vbs v ≡ Some pv) where
        producer : VbAgrees r mp v (c.nodes p) pv
        producer = subst (AgreesAt r mp v (c.nodes p)) (known_there (Some pv) known) (now.agrees.vbs mp v)

        module _ (active : is_active pv.role ≡ true) (free : stream_at (next_stream s.end) pv.streams ≡ None) (ruled : rule pv.log pv.position.at ask ≡ Continue)
            (st : States) (are : StatesAre x.0.vbs v (record pv { streams = pv.streams ++ new_stream pv (next_stream s.end) ask true ∷ [] }) st) where
          abbrev fv : Plain
          fv = la.follower

          abbrev kn : Member
          kn = c.nodes k

          abbrev pn : Member
          pn = c.nodes p

          abbrev opened : Plain
          opened = record pv { streams = pv.streams ++ new_stream pv (next_stream s.end) ask true ∷ [] }

          abbrev s' : Served
          s' = granted_lines s o v ask pv.log pv.position.at

          abbrev came : PlainNode × PeerResult
          came = answered_at x st s'.end (told_line s v ask pv.log pv.position.at AskAnswer.Go ∷ []) (spelling (answer_frame o pv.log AskAnswer.Go))

          abbrev link' : PlainLink
          link' = served_at came.1

          node_of_same_vbs : SameNode x.0 came.0
          node_of_same_vbs = record { shelves = λ q. refl; power = refl }

          wrote : link0.down ++ (x.1.out ++ spelling (answer_frame o pv.log AskAnswer.Go)) ≡ (link0.down ++ x.1.out) ++ spelling (answer_frame o pv.log AskAnswer.Go)
          wrote = sym (append_assoc link0.down x.1.out (spelling (answer_frame o pv.log AskAnswer.Go)))

          -- no state was taken, so its vBucket follows
          follows : is_follower fv.role ≡ true
          follows = subst (λ (y : TakeOver). FollowsBy y.last fv.role) t.untold la.follows

          asleep : kn.active ≡ false
          asleep = follower.member.active ∙ no_writer fv.role follows

          leads : pn.active ≡ true
          leads = producer.member.active ∙ active

          -- it has all that the request means
          reached : effective_se ask.start ask.ss ask.se ≤ pn.position.at
          reached = continues_reached pn.log pn.position.at ask (now.agrees.sound.leads p leads).falls in_order (ruled_there r c now.agrees.sound now.agrees.hists mp v p pv producer ask active Continue ruled)

          seats_apart : p ≡ k → ⊥
          seats_apart e = let same : pn.active ≡ kn.active = ap (λ j. (c.nodes j).active) e in let a = asleep in let b = leads in cc

          nodes_apart : nn ≡ producer_node link0 → ⊥
          nodes_apart e =
              let there : vb_of (world_at x) nn v ≡ Some fv = la.follower_is in
              let here : vb_of (world_at x) nn v ≡ Some pv = ap (λ j. vb_of (world_at x) j v) (e ∙ sym (ap (λ d. d.node) now.desk)) ∙ known_there (Some pv) known in
              let one : fv ≡ pv = cc in
              let a : is_active fv.role ≡ true = ap (λ (q : Plain). is_active q.role) one ∙ active in
              let b = no_writer fv.role follows in
              cc

          ends_apart : mp ≡ nn → ⊥
          ends_apart e = nodes_apart (sym e ∙ ap (λ d. d.node) now.desk)

          -- a rule looks at no flags
          asks : rule pn.log pn.position.at ask ≡ rule pn.log pn.position.at (request_of kn.log kn.position)
          asks = ap (rule pn.log pn.position.at) t.asks ∙ sym (ap (λ g. rule pn.log pn.position.at (request_of g kn.position)) follower.member.log ∙ ap (λ (at : Position). rule pn.log pn.position.at (request_of fv.log at)) follower.member.position)

          may : May top c (Move.Grant k p)
          may = (asleep, leads, sym asks ∙ ruled_there r c now.agrees.sound now.agrees.hists mp v p pv producer ask active Continue ruled)

          abbrev c' : Cluster
          c' = happens c (Move.Grant k p)

          abbrev r' : Chronicle
          r' = with_stream r (StreamName.Link l) v (Some (granted ask pv.log))

          fed : FeedChanged k c c'
          fed = record {
            changed = record { tree = refl; others = λ j ne. put_there c.nodes k (answered kn pn) j ne; disks = λ j ne. disk_there c.disks k (c.disks k) j ne };
            disk = disk_here c.disks k (c.disks k);
            fed = let here = put_here c.nodes k (answered kn pn) in record {
              active = ap (λ (q : Member). q.active) here;
              br = ap (λ (q : Member). q.br) here;
              held = ap (λ (q : Member). q.held) here;
              position = ap (λ (q : Member). q.position) here;
              log = ap (λ (q : Member). q.log) here;
            };
          }

          known_of : ToldOf l r r'
          known_of = record { last = later_same _ _ refl refl; tree = refl; writer_of = λ u. refl; rows = λ m q. refl; arms = λ m. refl; clients = λ m c. refl; dials = λ j ne. refl; streams = λ j q ne. stream_there r l v (Some (granted ask pv.log)) j q ne; states = λ j ne. refl; points = λ j ne. refl }

          vb_opened : vb_of (world_at came) mp v ≡ Some opened
          vb_opened = ap (λ d. vb_of (world_at came) d.node v) now.desk ∙ vb_here came v ∙ are.here

          others : (i q : ℕ) → (i ≡ mp → q ≡ v → ⊥) → vb_of (world_at came) i q ≡ vb_of (world_at x) i q
          others i q ne = by (i == producer_node link0) refl
            where
              by : (b : Bool) → (i == producer_node link0) ≡ b → vb_in (if b then Some (with_states x.0 st) else w0.nodes i) q ≡ vb_in (if b then Some x.0 else w0.nodes i) q
              by true e = are.there q (λ z. ne (eqb-true i (producer_node link0) e ∙ sym (ap (λ d. d.node) now.desk)) z)
              by false e = refl

          became : Became (world_at x) (world_at came) mp v opened l link'
          became = record { powers = same_powers x came node_of_same_vbs; here = vb_opened; there = others; shelves = λ i q o. same_shelves x came node_of_same_vbs i q; uuids = refl; linked = links_at x came }

          talk : Talk fv (c'.nodes k) (vb_of (world_at came) mp v) (c'.nodes p) (r'.stream_of (StreamName.Link l) v) (r.stated_of l) (r.point_of l) link' fs []
          talk =
              let base : Talk fv (answered kn pn) (Some opened) pn (Some (granted ask pv.log)) None (r.point_of l) link' fs []
              = granted_talk fv ask link (link0.down ++ (x.1.out ++ spelling (answer_frame o pv.log AskAnswer.Go))) f fs talk_now.asked talk_now.said t last talk_now.ups talk_now.downs pv kn pn follower.member.position producer.member.log (now.agrees.sound.leads p leads).front
              (now.agrees.sound.stands p).ancestry.short producer.entries active free ends_apart wrote reached (r.point_of l) in
              talk_same (put_here c.nodes k (answered kn pn)) vb_opened (put_there c.nodes k (answered kn pn) p seats_apart) (stream_here r l v (Some (granted ask pv.log))) none.1 refl base

          lb : LinkAgrees (world_at came) r' c' link' fs []
          lb =
              record {
                follower = fv;
                follower_is = vb_there came nn v nodes_apart ∙ sym (vb_there x nn v nodes_apart) ∙ la.follower_is;
                follows = la.follows;
                acks = subst (λ o. AckedIs o link0.consumer.acked) (sym (stream_here r l v (Some (granted ask pv.log)))) (subst (λ o. AckedIs o link0.consumer.acked) none.0 la.acks);
                dial = la.dial;
                talk = talk;
              }

          line_lawful : (behind : List _) → LawfulLine r (told_line s v ask pv.log pv.position.at AskAnswer.Go) behind
          line_lawful behind =
              subst (λ nm. LawfulLine r (Event.Asked nm mp v ask pv.position.at pv.log AskAnswer.Go) behind) (sym la.named)
              (own_lawful r c now.agrees.sound now.agrees.hists mp v p pv producer ask l dialed_there flagged_so AskAnswer.Go (go_lawful r c now.agrees.sound now.agrees.hists mp v p pv producer ask active in_order ruled)
              (active_vb_lines r c now.agrees.sound now.agrees.hists mp v p pv producer ask active))

          told : after_lines r0 came.1.events ≡ r'
          told =
              told_more r0 x.1.events (told_line s v ask pv.log pv.position.at AskAnswer.Go ∷ [])
              ∙ ap (λ nm. after_line r (Event.Asked nm mp v ask pv.position.at pv.log AskAnswer.Go)) la.named

          -- it is let continue
          granted_now : Now fs (came_of x (st, s'))
          granted_now = record {
            cluster = c';
            lawful = one_before r0 x.1.events (told_line s v ask pv.log pv.position.at AskAnswer.Go) now.lawful line_lawful;
            agrees = subst (λ q. AgreesIn (answering l fs) (world_at came) q c') (sym told)
                (carries_producer (answering l (f ∷ fs)) (answering l fs) (world_at x) (world_at came) r r' c c' l link link' (next_stream s.end) pv opened now.agrees (found_at x)
                (record { dialed = refl; desk = refl }) (known_there (Some pv) known) (streams_opened fv ask link (link0.down ++ (x.1.out ++ spelling (answer_frame o pv.log AskAnswer.Go))) f fs talk_now.asked talk_now.said t last talk_now.ups talk_now.downs pv kn pn follower.member.position producer.member.log (now.agrees.sound.leads p leads).front
                (now.agrees.sound.stands p).ancestry.short producer.entries active free ends_apart wrote reached producer.sound) became (same_shelves x came node_of_same_vbs mp v) (inr free) (λ q k has. ⊎_elim (λ o. (sym o.0, sym o.1)) (λ none. absurd none) has) known_of fed (keeps top c (Move.Grant k p) now.agrees.sound may)
                (one_but l (f ∷ fs, []) (fs, [])) (subst (λ q. LinkAgrees (world_at came) r' c' link' q.0 q.1) (sym (one_here l (fs, []))) lb));
            calm = subst AllDurable (sym (ap (λ (k : Chronicle). k.made) told)) now.calm;
            desk = now.desk;
            heard = now.heard;
            ranged = record { clock = now.ranged.clock; clients = now.ranged.clients; own = now.ranged.own; runs = now.ranged.runs };
          }

      answered_as : (y : States × Served) → after (frame_answered (dcp_frame (DcpMsg.StreamRequest ask) o v) s) x.0.vbs ≡ y → Now fs (came_of x y) → Now fs (frame_up f x)
      answered_as y e now' =
          let it : dcp_frame (DcpMsg.StreamRequest ask) o v ∷ [] ≡ f ∷ (fs ++ talk_now.ups.behind) = sym (request_last o link0.consumer.dialed ask) ∙ next_frame (first_count link0.consumer.dialed) last in
          let same : dcp_frame (DcpMsg.StreamRequest ask) o v ≡ f = cc in
          subst (Now fs) (sym (frame_came f x ∙ ap (λ g. came_of x (after (frame_answered g s) x.0.vbs)) (sym same) ∙ ap (came_of x) e)) now'

      asked_open : s.end.handshake ≡ Handshake.Open true (Named.Member nn)
      asked_open = asked_opened la.follower ask link [] f fs talk_now.asked talk_now.said t last talk_now.ups talk_now.downs

      -- a number is left for its stream
      numbers_left : s.end.asked + 1 < 2 ^ 32
      numbers_left = let below = t.fewer in let small : link0.consumer.asked < 2 ^ 32 = t.consumer.small in omega (arith, below, small)

      low_flags : nat_lt 1 ask.flags ≡ false
      low_flags = flags_known link0.consumer.dialed.takeover ask (request_of la.follower.log la.follower.position) t.asks

      -- a running node's vBucket that is not made holds nothing, and the lines tell so
      absent : x.0.vbs v ≡ None → Now fs (frame_up f x)
      absent none =
          let nothing = nothing_here (world_at x) r c mp v now.agrees (known_there None none) (not_down (power_of (world_at x) mp) (now.agrees.ends link (found_is_link l (world_at x).links link (found_at x)).0).producer) in
          answered_as (x.0.vbs, refused_told s o v ask [] 0 (AskAnswer.Refuse 7)) (absent_asked o v nn ask s in_range asked_open low_flags linked t.no_stream numbers_left x.0.vbs none)
          (refuse_last last x.0.vbs (λ q. refl) [] 0 (AskAnswer.Refuse 7) (λ e. omega arith, λ e. omega arith, omega arith)
          (absent_lawful r l mp v ask dialed_there flagged_so nothing.log nothing.held))

      module _ (pv : Plain) (known : x.0.vbs v ≡ Some pv) where
        same_states : (st : States) → StatesAre x.0.vbs v pv st → (q : ℕ) → st q ≡ x.0.vbs q
        same_states st are q = by (q == v) refl
          where
            by : (b : Bool) → (q == v) ≡ b → st q ≡ x.0.vbs q
            by true e = ap st (eqb-true q v e) ∙ are.here ∙ sym known ∙ ap x.0.vbs (sym (eqb-true q v e))
            by false e = are.there q (eqb-false q v e)

        -- it is refused, or sent back
        refused_now : (st : States) → StatesAre x.0.vbs v pv st → (said : AskAnswer) → IsRefused said → LawfulVerdict r.tree pv.log pv.position.at ask said → GrantsAs (r.role_at mp v) said
            → after (frame_answered (dcp_frame (DcpMsg.StreamRequest ask) o v) s) x.0.vbs ≡ (st, refused_told s o v ask pv.log pv.position.at said) → Now fs (frame_up f x)
        refused_now st are said refused verdict grants e =
            answered_as (st, refused_told s o v ask pv.log pv.position.at said) e
            (refuse_last last st (same_states st are) pv.log pv.position.at said refused
            (own_lawful r c now.agrees.sound now.agrees.hists mp v p pv (producer pv known) ask l dialed_there flagged_so said verdict grants))

        refuses : (why : Status) → open_refusal pv (next_stream s.end) ask ≡ Some why → Now fs (frame_up f x)
        refuses why because =
            let a = refused_asked o v nn ask s in_range asked_open low_flags linked t.no_stream numbers_left x.0.vbs pv known why because in
            let named = refusal_named pv (next_stream s.end) ask why because in
            refused_now a.0 a.1 (refuse why) named named.0 tt a.2

        module _ (active : is_active pv.role ≡ true) where
          judges : open_refusal pv (next_stream s.end) ask ≡ None → (said : Verdict) → rule pv.log pv.position.at ask ≡ said → Now fs (frame_up f x)
          judges opens Continue ruled =
              let a = granted_asked o v nn ask s in_range asked_open low_flags linked t.no_stream numbers_left x.0.vbs pv known opens ruled in
              answered_as (a.0, granted_lines s o v ask pv.log pv.position.at) a.2 (granted_now pv known active (opens_free pv (next_stream s.end) ask active opens) ruled a.0 a.1)
          judges opens (Roll to) ruled =
              let a = rolled_asked o v nn ask s in_range asked_open low_flags linked t.no_stream numbers_left x.0.vbs pv known to opens ruled in
              refused_now a.0 a.1 (AskAnswer.Roll to) (roll_low pv.log pv.position.at ask to in_range ruled)
              (roll_lawful r c now.agrees.sound now.agrees.hists mp v p pv (producer pv known) ask active to ruled) (active_vb_lines r c now.agrees.sound now.agrees.hists mp v p pv (producer pv known) ask active) a.2

        decides : (why : Option Status) → open_refusal pv (next_stream s.end) ask ≡ why → Now fs (frame_up f x)
        decides None opens = judges (opens_active pv (next_stream s.end) ask opens) opens (rule pv.log pv.position.at ask) refl
        decides (Some why) because = refuses why because

      by_vb : (o : Option Plain) → x.0.vbs v ≡ o → Now fs (frame_up f x)
      by_vb None none = absent none
      by_vb (Some pv) known = decides pv known (open_refusal pv (next_stream s.end) ask) refl

      -- the request for the stream is answered
      pub request_decided : Now fs (frame_up f x)
      request_decided = by_vb (x.0.vbs v) refl

  -- a frame that a consumer sent as it dialed, or its request for a stream
  pub asking_next : (f : Frame) (fs : List Frame) (x : PlainNode × PeerResult) (now : Now (f ∷ fs) x) (ask : StreamAsk) → IsUnsaid ((after_lines r0 x.1.events).stream_of (StreamName.Link l) v) ((after_lines r0 x.1.events).stated_of l) → ((after_lines r0 x.1.events).takeover_of l).dialed ≡ link0.consumer.dialed.takeover
      → AskingNow f fs x now ask → Now fs (frame_up f x)
  asking_next f fs x now ask none noted t =
      ⊎_elim (λ few. success f fs x now ask none t t.answered refl few) (λ all. request_decided f fs x now ask none t (let most : t.answered ≤ first_count link0.consumer.dialed = t.some_left in omega arith) noted) (cases_lt t.answered (first_count link0.consumer.dialed))
