-- an acknowledgement is counted at a producer, or refused: all lines are lawful, and after them all agrees
use Rattle.std.specs.Prelude.{◌||◌, ◌≡◌, ◌<◌, ◌≤◌, ◌∷◌, ◌++◌, ◌==◌, ◌^◌, if◌then◌else◌, nat_lt, Result, Ok, Err}
use Rattle.dcp_producer.specs.{Producers.{is_client, is_open, member_of, stream_at as stream_of_vb}, declared.desk.Named.{Named}, Serving.{acknowledged, count_answered, count_requested, counted_by, counted_line, fed_stream, status_frame, status_sent, weighed}}
use Rattle.durability.specs.Outstanding.{with_ack}
use Rattle.mcbp_frame.proofs.Pieces.{frames-left, left-left}
use Rattle.node_core.specs.Calls.{own_lines}
use Rattle.node_world.specs.{Links.{frame_up}, Nodes.{all_posted}}
use Rattle.transcript_law.proofs.Words.{ℕ, Bool, true, false, List, [], map, refl, ap, sym, ◌∙◌, subst, arith, append-nil, append_assoc, eq-eqb, Option, Some, None, is_some, last_seq, ltb-false, LawfulCounted, LawfulLine, PlainStream, Role, All, Frame, spelling, Readable, frames_in, left_of, dcp_frame, Event, Status, StreamName}
use Rattle.transcript_law.proofs.Words.{Plain, is_active, newest_branch, quiet_reply, refusal_reply, after, row_at, row_put, States, with_vb_at, call_at, VbAnswer, VbCall, VbReply, Member, Granted, StaysSound, Served, begun, frame_answered, status_sent}
use Rattle.transcript_law.proofs.Words.{DcpMsg, Done, Handshake, inl, inr, ⊎_elim, PlainProducer, PeerResult, PlainLink, link_number, producer_node, PlainNode, PlainWorld, with_states, with_node_at, with_links, vb_in, shelf_in, Chronicle, after_line, after_lines, stream_branch, LawfulFrom}
use Rattle.transcript_law.proofs.invariant.Agreement.{active_counts, Agrees, AgreesAt, AgreesIn, EndsStand, Heir, IsAcknowledgement, IsBytesAcknowledgement, IsSeqnoAcknowledgement, IsUpward, IsWriter, IsWriterIf, LinkAgrees, kept_stream, Streaming, Talk, UpwardIs, VbAgrees, answers_in, stated_in, consumer_seat, heir_answers, idle, is_refused_ack, producer_seat, spoken, vb_of, wants_of, DownAgrees, UpIs}
use Rattle.transcript_law.proofs.{invariant.Counts.{counts_agree}, invariant.Majorities.{counts_more}}
use Rattle.transcript_law.specs.Chronicles.{after_count}
use Rattle.transcript_law.proofs.{invariant.Carried.{talk_same, told_of_same}, lines.ClientLines.{clients_quiet}, disks.Disks.{beside_in}, invariant.JobSteps.{put_over}, invariant.LinkRows.{put_is_found, put_twice}, lines.Lines.{AreQuiet, after_more, lawful_more, quiet_more}}
use Rattle.transcript_law.proofs.answers.{Claims.{ClaimAt, call_claims, changes_claim}, Committed.{AllHowTold, all_claimed, all_told}, Explained.{explained}, Calm.{OfDurable, durable_settled, durable_told}}
use Rattle.vbucket.proofs.RowIs.{Counts}
use Rattle.{durability.specs.declared.waiting.Waiting.{Waiting}, vb_types.specs.declared.change.Pend.{Pend}, transcript_law.specs.{Feeding.{client_in}, LawfulAnswers.{AllDurable}}}
use Rattle.transcript_law.proofs.{verbs.NodeLines.{node_changed, node_grown, put_same, shelves_again, shelves_put}, links.Posting.{posts_go, posts_of_clients, posts_ranged}, invariant.Ranged.{NodeRanged}, links.Requests.{ack_answered, all_set, bytes_answered, passed_end}, links.Windows.{stands_served}, links.Heard.{owned_heard, pended_heard}, links.Upgoing.{CountsBy, ack_unanswered, acks_left, heir_counts, heir_left, streaming_counts, upward_behind, upward_front}, invariant.Seats.{seat}}
use Rattle.transcript_law.proofs.verbs.Settling.{SettlesOn, Steady, changes_quiet, changes_told, settled_told, settles}
use Rattle.transcript_law.proofs.{links.Spoken.{spoken_pushed, status_readable}, invariant.Tables.{if_known}, links.Talks.{come, more_down, next_up}, lines.Telling.{LawfulBefore, before_more, none_before, told_more}, links.Unread.{answering, heard_link, readable_up, reread, unread}}
use Rattle.transcript_law.proofs.links.Upward.{Now, answered_at, came_of, found_at, frame_came, link_now, quiet_at, same_vbs, served_at, vb_here, world_at}
use Rattle.vb_calls.specs.{Settling.{also_resolved, and_settled, settled, unresolved}}
use Rattle.vbucket.proofs.Preparing.{ack_sound}

module _ (stays : StaysSound) (steady : Steady) (w0 : PlainWorld) (r0 : Chronicle) (n : ℕ) (link0 : PlainLink) (found : row_at link_number (link_number link0) w0.links ≡ Some link0) where
  abbrev l : ℕ
  l = link_number link0

  abbrev m : ℕ
  m = producer_node link0

  abbrev v : ℕ
  v = link0.consumer.dialed.vb

  -- the stream's opaque
  abbrev o : ℕ
  o = link0.consumer.asked

  abbrev So : List Frame → PlainNode × PeerResult → Type 0
  So fs x = Now w0 r0 n link0 found fs x

  -- a frame is about to be answered
  module _ (f : Frame) (fs : List Frame) (x : PlainNode × PeerResult) (now : So (f ∷ fs) x) where
    abbrev here_now : PlainLink
    here_now = served_at w0 r0 n link0 found x.1

    abbrev la_now : LinkAgrees (world_at w0 r0 n link0 found x) (after_lines r0 x.1.events) now.cluster here_now (f ∷ fs) []
    la_now = link_now w0 r0 n link0 found (f ∷ fs) x now

    -- what is on its way behind it
    abbrev rest_now : List Frame
    rest_now = fs ++ la_now.talk.ups.behind

    abbrev pv_now : Option Plain
    pv_now = vb_of (world_at w0 r0 n link0 found x) (producer_node here_now) v

    abbrev told_now_of : Option Granted
    told_now_of = (after_lines r0 x.1.events).stream_of (StreamName.Link l) v

    -- the link's stream, with these frames on their way up, that of an heir, and where the link's ends stand
    abbrev StreamingWith : List Frame → Type 0
    StreamingWith up = Streaming (wants_of la_now.follower) (now.cluster.nodes (consumer_seat link0)) pv_now (now.cluster.nodes (producer_seat here_now)) told_now_of x.1.peer.producer link0.consumer up (spoken la_now.talk.said)

    abbrev HeirWith : List Frame → Type 0
    HeirWith up = Heir pv_now told_now_of x.1.peer.producer link0.consumer up (spoken la_now.talk.said)

    abbrev StandsWith : List Frame → Type 0
    StandsWith up =
        EndsStand (wants_of la_now.follower) (now.cluster.nodes (consumer_seat link0)) pv_now (now.cluster.nodes (producer_seat here_now)) told_now_of ((after_lines r0 x.1.events).stated_of l) ((after_lines r0 x.1.events).point_of l) x.1.peer.producer link0.consumer up (spoken la_now.talk.said)

    -- what it counts by
    abbrev CountsNow : Type 0
    CountsNow = CountsBy pv_now (now.cluster.nodes (producer_seat here_now)) told_now_of x.1.peer.producer link0.consumer

  -- the frame is an acknowledgement of a seqno
  module _ (f : Frame) (fs : List Frame) (x : PlainNode × PeerResult) (now : So (f ∷ fs) x) (t : CountsNow f fs x now) (left : StandsWith f fs x now (rest_now f fs x now)) (it : IsSeqnoAcknowledgement t.granted_is.wrote o v f) where
    abbrev end : PlainProducer
    end = x.1.peer.producer

    -- the producer as it begins to answer
    abbrev s : Served
    s = begun end

    abbrev r : Chronicle
    r = after_lines r0 x.1.events

    abbrev here : PlainLink
    here = served_at w0 r0 n link0 found x.1

    abbrev la : LinkAgrees (world_at w0 r0 n link0 found x) r now.cluster here (f ∷ fs) []
    la = link_now w0 r0 n link0 found (f ∷ fs) x now

    -- what is on its way behind the frame
    abbrev rest : List Frame
    rest = fs ++ la.talk.ups.behind

    abbrev seq : ℕ
    seq = it.0

    -- it is weighed as the dialing node's, on a stream that is not over, or not at all
    weighs : (o1 : Option PlainStream) (o2 : Option ℕ) (member : ℕ) → weighed seq o1 o2 ≡ Ok member → is_some o1 ≡ true × (o2 ≡ Some member)
    weighs None o2 member e = cc
    weighs (Some stream) None member e = cc
    weighs (Some stream) (Some k) member e = (refl, elim (nat_lt stream.reached seq) as (λ b. (if b then Err Status.Erange else Ok k) ≡ Ok member → Some k ≡ Some member) [ true ↦ λ e'. cc | false ↦ λ e'. cc ] e)

    -- the stream that is fed, and how the acknowledgement is weighed
    abbrev fed_of : List PlainStream → Option PlainStream
    fed_of streams = fed_stream s.end.desk.stream (stream_of_vb f.vb_or_status streams)

    abbrev weight : Result ℕ Status
    weight = weighed seq (fed_of s.end.streams) (member_of s.end.handshake)

    kept_live : (over : Bool) (stream : PlainStream) → is_some (fed_of (kept_stream over stream)) ≡ true → (over ≡ false) × (stream.ended ≡ false)
    kept_live true stream e = cc
    kept_live false stream e = (refl, by (stream.vb == f.vb_or_status) e)
      where
        fed : (other ended : Bool) → is_some (if other || ended then None else Some stream) ≡ true → ended ≡ false
        fed true ended e = cc
        fed false true e = cc
        fed false false e = refl

        by : (own : Bool) → is_some (fed_stream s.end.desk.stream (if own then Some stream else None)) ≡ true → stream.ended ≡ false
        by true e = fed (is_client s.end.desk.stream) stream.ended e
        by false e = cc

    member_is : (member : ℕ) → weight ≡ Ok member → link0.consumer.dialed.node ≡ member
    member_is member e =
        let named : member_of s.end.handshake ≡ Some link0.consumer.dialed.node = ap member_of (t.server ∙ all_set link0.consumer.dialed) in
        let counted_as : member_of s.end.handshake ≡ Some member = (weighs (fed_of s.end.streams) (member_of s.end.handshake) member e).1 in
        cc

    is_live : (member : ℕ) → weight ≡ Ok member → (t.granted_is.over ≡ false) × (t.stream.ended ≡ false)
    is_live member e = kept_live t.granted_is.over t.stream
        (ap (λ streams. is_some (fed_of streams)) (sym t.stream_is) ∙ (weighs (fed_of s.end.streams) (member_of s.end.handshake) member e).0)

    vb_is : f.vb_or_status ≡ v
    unfolding dcp_frame
    vb_is = ap (λ (g : Frame). g.vb_or_status) it.1

    opaque_is : f.opaque ≡ o
    unfolding dcp_frame
    opaque_is = ap (λ (g : Frame). g.opaque) it.1

    -- the answer to it is one that the consumer drops
    dropped : (st : Status) → is_refused_ack (status_frame f st) ≡ true
    unfolding dcp_frame
    dropped st = ap (λ (g : Frame). is_refused_ack (status_frame g st)) it.1

    -- where the link stands behind it
    talk_left : (out : List ℕ) (said : List Frame) → spoken said ≡ spoken la.talk.said → (let y = answered_at w0 r0 n link0 found x x.0.vbs end [] out in let there = served_at w0 r0 n link0 found y.1 in
        DownAgrees there [] said → Talk la.follower (now.cluster.nodes (consumer_seat link0)) (vb_of (world_at w0 r0 n link0 found x) (producer_node here) v) (now.cluster.nodes (producer_seat here)) (r.stream_of (StreamName.Link l) v) (r.stated_of l) (r.point_of l) there fs [])
    talk_left out said same downs = record {
      asked = rest;
      said = said;
      stands = subst (EndsStand (wants_of la.follower) (now.cluster.nodes (consumer_seat link0)) (vb_of (world_at w0 r0 n link0 found x) (producer_node here) v) (now.cluster.nodes (producer_seat here)) (r.stream_of (StreamName.Link l) v) (r.stated_of l) (r.point_of l)
          end link0.consumer rest) (sym same) left;
      ups = next_up here end (link0.down ++ (x.1.out ++ out)) f f f fs rest (subst (UpIs here (f ∷ fs)) la.talk.ups.joined la.talk.ups);
      downs = downs;
    }

    -- the vBuckets are as they were, the lines tell nothing, and the link stands so
    left_on : (st : States) → ((q : ℕ) → st q ≡ x.0.vbs q) → (lines : List Event) → LawfulBefore r lines → after_lines r lines ≡ r → (out : List ℕ) (said : List Frame) → spoken said ≡ spoken la.talk.said
        → DownAgrees (served_at w0 r0 n link0 found (answered_at w0 r0 n link0 found x st end lines out).1) [] said → So fs (answered_at w0 r0 n link0 found x st end lines out)
    left_on st same lines lawful told out said spoke downs =
        let y = answered_at w0 r0 n link0 found x st end lines out in
        quiet_at w0 r0 n link0 found (f ∷ fs) fs x now st same end lines out refl (λ v id has. has) lawful r told (told_of_same l r) refl refl refl refl
        (talk_same refl (same_vbs w0 r0 n link0 found x y same end.desk.node v) refl refl refl refl (talk_left out said spoke downs))

    -- it is refused
    refused_now : (st : Status) (states : States) → ((q : ℕ) → states q ≡ x.0.vbs q) → So fs (came_of w0 r0 n link0 found x (states, status_sent f st s))
    unfolding status_sent
    refused_now st states same =
        let a : Frame = status_frame f st in
        left_on states same [] (none_before r) refl (spelling a) (la.talk.said ++ a ∷ []) (spoken_pushed la.talk.said a (dropped st))
        (more_down here end (link0.down ++ (x.1.out ++ spelling a)) a la.talk.said (sym (append_assoc link0.down x.1.out (spelling a)))
        (status_readable f st (subst (λ k. k < 2 ^ 32) (sym opaque_is) t.small)) la.talk.downs)

    -- a vBucket of the producer's node is to count it
    module _ (member : ℕ) (own : link0.consumer.dialed.node ≡ member) (live : (t.granted_is.over ≡ false) × (t.stream.ended ≡ false)) (pv : Plain) (known : x.0.vbs v ≡ Some pv) where
      -- what comes of the vBucket's step
      abbrev step_came : Plain × VbReply → States × Served
      step_came step = (with_vb_at x.0.vbs v step.0, counted_by f member seq step.1 step.1.answer s)

      put_again : (q : ℕ) → with_vb_at x.0.vbs v pv q ≡ x.0.vbs q
      put_again = put_same x.0.vbs v pv known

      -- which takes it
      module _ (active : is_active pv.role ≡ true) (within : nat_lt pv.position.at seq ≡ false) where
        abbrev acked_vb : Plain
        acked_vb = record pv { acks = with_ack pv.acks member seq }

        abbrev counted : Event
        counted = counted_line end.desk f member seq

        before : VbAgrees r m v (now.cluster.nodes (seat m v)) pv
        before = subst (AgreesAt r m v (now.cluster.nodes (seat m v))) (vb_here w0 r0 n link0 found x v ∙ known) (now.agrees.vbs m v)

        is_active_role : (role : Role) → is_active role ≡ true → role ≡ Role.Active
        is_active_role Role.Active e = refl
        is_active_role Role.Replica e = cc
        is_active_role Role.Pending e = cc
        is_active_role Role.Dead e = cc

        node_is : end.desk.node ≡ m
        node_is = ap (λ d. d.node) now.desk

        -- it is on the branch of the stream
        on_branch : r.branch_at m v ≡ Some (stream_branch t.granted_is)
        on_branch =
            let br : ℕ = (now.cluster.nodes (seat m v)).br in
            let writes : IsWriter r.tree (r.writer_of br) (r.branch_at m v) m v br = subst (λ b. IsWriterIf b r.tree (r.writer_of br) (r.branch_at m v) m v br) active before.writes in
            writes.branch ∙ ap Some (ap (λ k. (now.cluster.nodes (seat k v)).br) (sym node_is) ∙ t.on_branch live.1 live.0 pv (ap (λ k. vb_of (world_at w0 r0 n link0 found x) k v) node_is ∙ vb_here w0 r0 n link0 found x v ∙ known) active)

        is_counted : LawfulCounted r l m v member seq
        is_counted = record {
          active = if_known (r.role_at m v) (Some Role.Active) (before.role ∙ ap (λ (role : Role). Some (Some role)) (is_active_role pv.role active));
          dialed = la.dialed ∙ ap (λ k. Some (record { producer = k; node = link0.consumer.dialed.node; vb = v })) node_is ∙ ap (λ k. Some (record { producer = m; node = k; vb = v })) own;
          granted = (t.granted_is, t.told, live.0, it.3, on_branch);
          held = (let at_is : last_seq 0 (r.held m v) ≡ pv.position.at = ap (last_seq 0) before.held ∙ before.high in let few : seq ≤ pv.position.at = ltb-false pv.position.at seq within in omega arith);
          another = λ e. t.apart (node_is ∙ sym e ∙ sym own);
        }

        line_is : counted ≡ Event.Counted (StreamName.Link l) m v member seq
        line_is = ap (λ stream. Event.Counted stream end.desk.node f.vb_or_status member seq) la.named ∙ ap (λ k. Event.Counted (StreamName.Link l) k f.vb_or_status member seq) node_is
            ∙ ap (λ k. Event.Counted (StreamName.Link l) m k member seq) vb_is

        counted_lawful : (behind : List Event) → LawfulLine r counted behind
        counted_lawful behind = subst (λ line. LawfulLine r line behind) (sym line_is) is_counted

        -- the link without the frame
        abbrev told_x : PlainNode × PeerResult
        told_x = answered_at w0 r0 n link0 found x x.0.vbs end [] []

        told_now : So fs told_x
        told_now = left_on x.0.vbs (λ q. refl) [] (none_before r) refl [] la.talk.said refl
            (subst (λ out. DownAgrees (record here { down = link0.down ++ out }) [] la.talk.said) (sym (append-nil x.1.out)) la.talk.downs)

        told_same : after_lines r0 told_x.1.events ≡ r
        told_same = told_more r0 x.1.events []

        -- what the line tells that it was counted
        abbrev r3 : Chronicle
        r3 = after_count r m v member seq

        counted_tells : after_line r counted ≡ r3
        counted_tells = ap (after_line r) line_is

        abbrev there : PlainLink
        there = served_at w0 r0 n link0 found told_x.1

        abbrev heard : PlainLink
        heard = heard_link there fs

        abbrev w1 : PlainWorld
        w1 = world_at w0 r0 n link0 found told_x

        -- the world in which the frames to come are heard alone
        abbrev w2 : PlainWorld
        w2 = with_links w1 (row_put link_number l heard w1.links)

        agrees2 : AgreesIn idle w2 r told_now.cluster
        agrees2 = unread w1 w2 r told_now.cluster l there fs (subst (λ z. AgreesIn (answering l fs) w1 z told_now.cluster) told_same told_now.agrees) (found_at w0 r0 n link0 found told_x)
            (record { powers = λ k. refl; vbs = λ k q. refl; shelves = λ k q. refl; uuids = refl; linked = refl })

        -- the vBucket has the acknowledgement, as the line tells
        abbrev acked_node : PlainNode
        acked_node = with_states told_x.0 (with_vb_at x.0.vbs v acked_vb)

        abbrev w3 : PlainWorld
        w3 = with_node_at w2 m acked_node

        -- a node's number is that of a member
        few : member < 256
        few = let z : link0.consumer.dialed.node < 16 = la.small.0 in subst (λ k. k < 256) own (omega arith)

        producer : VbAgrees r m v (told_now.cluster.nodes (seat m v)) pv
        producer = subst (AgreesAt r m v (told_now.cluster.nodes (seat m v))) (vb_here w0 r0 n link0 found told_x v ∙ known) (agrees2.vbs m v)

        found2 : w2.nodes m ≡ Some told_x.0
        found2 = ap (λ b. if b then Some told_x.0 else w0.nodes m) (eq-eqb m m refl)

        agrees3 : AgreesIn idle w3 r3 told_now.cluster
        agrees3 = counts_agree w2 w3 r told_now.cluster m v pv pv.others (with_ack pv.acks member seq) (record (r.counts_at m v) { acks = (member, seq) ∷ (r.counts_at m v).acks }) agrees2 (ap (λ o. vb_in o v) found2 ∙ known)
            (ack_sound pv member seq active producer.sound) (counts_more (r.counts_at m v) pv.others pv.acks member seq (subst (λ k. member < k) (sym producer.sound.links.each) few) (active_counts active producer.counts)) refl refl
            (node_changed w2 m v told_x.0 acked_node acked_vb found2 (λ q. refl) (λ q o. refl) refl) (shelves_again w2 m told_x.0 acked_node (λ q. refl) m v ∙ shelves_put w2 m told_x.0 found2 m v)

        -- and commits what it may
        settles_on : SettlesOn w3 r3 m v (unresolved acked_vb) (settled acked_vb)
        settles_on = settles steady.commits m v w3 r3 told_now.cluster acked_node acked_vb agrees3 (ap (λ b. if b then Some acked_node else w2.nodes m) (eq-eqb m m refl)) (ap (λ b. if b then Some acked_vb else x.0.vbs v) (eq-eqb v v refl))

        abbrev changes : List Event
        changes = changes_told m v (newest_branch acked_vb.log) settles_on.cs

        abbrev last_states : States
        last_states = with_vb_at x.0.vbs v (settled acked_vb).vb

        abbrev last_node : PlainNode
        last_node = with_states x.0 last_states

        abbrev r4 : Chronicle
        r4 = after_lines r3 changes

        agrees4 : Agrees (with_node_at w2 m last_node) r4
        agrees4 = settles_on.agrees (with_node_at w2 m last_node)
            (node_grown w2 m v acked_node last_node (settled acked_vb).vb (λ q. sym (ap (λ (g : States). g q) (put_over x.0.vbs v acked_vb (settled acked_vb).vb))) (λ q other. refl) refl)
            (shelves_again w2 m acked_node last_node (λ q. refl) m v)

        -- what became of durable writes is posted
        abbrev reply : VbReply
        reply = (also_resolved (quiet_reply VbAnswer.Done) (settled acked_vb)).1

        ranged4 : NodeRanged m last_node
        ranged4 = record { clock = now.ranged.clock; clients = now.ranged.clients; own = now.ranged.own; runs = now.ranged.runs }

        abbrev posts : PlainNode × List Event
        posts = all_posted reply.resolved last_node

        -- each outcome that is a commit was told with it
        paid : AllHowTold m r4 (ClaimAt r4 m last_node.clients) reply.resolved
        paid =
            let asked : VbCall = VbCall.Ack member seq in
            let claim : ℕ → Waiting → Pend → Type 0 = ClaimAt r3 m x.0.clients in
            all_claimed m r4 claim (ClaimAt r4 m last_node.clients) reply.resolved (changes_claim r3 m v (newest_branch acked_vb.log) settles_on.cs x.0.clients)
            (subst (λ ls. AllHowTold m (after_lines r3 ls) claim reply.resolved) (settled_told m v (quiet_reply VbAnswer.Done) acked_vb (newest_branch acked_vb.log) settles_on.cs refl settles_on.changes (ap newest_branch settles_on.log))
            (all_told r3 m v reply.branch claim reply.changes pv asked reply.resolved tt (call_claims w2 r m v pv asked x.0.clients tt agrees2.clients.owed (ap (λ o. vb_in o v) found2 ∙ known) (λ d. ap (λ o. client_in o d) found2))
            (explained pv (Counts member seq active) before.sound tt)))

        -- no set and no removal waits to be answered
        calm4 : AllDurable r4.made
        calm4 = durable_told r3 m v (newest_branch acked_vb.log) settles_on.cs (subst (All OfDurable) settles_on.changes (durable_settled acked_vb)) now.calm

        went : LawfulFrom r4 posts.1 × Agrees (with_node_at w2 m posts.0) (after_lines r4 posts.1) × AllDurable (after_lines r4 posts.1).made
        went = posts_go stays steady w2 r4 m last_node reply.resolved ranged4 paid calm4 agrees4

        posts_quiet : AreQuiet posts.1
        posts_quiet = clients_quiet posts.1 (posts_of_clients m reply.resolved last_node ranged4.own)

        -- all that is told of the frame
        abbrev lines : List Event
        lines = counted ∷ (changes ++ posts.1)

        lawful : LawfulBefore r lines
        lawful more behind =
            lawful_more r lines more (tt, quiet_more changes posts.1 (changes_quiet m v (newest_branch acked_vb.log) settles_on.cs) posts_quiet)
            (counted_lawful (changes ++ posts.1), subst (λ z. LawfulFrom z (changes ++ posts.1)) (sym counted_tells) (lawful_more r3 changes posts.1 (changes_quiet m v (newest_branch acked_vb.log) settles_on.cs) settles_on.lawful went.0)) behind

        -- the node and the connection after the frame
        abbrev y : PlainNode × PeerResult
        y = (posts.0, record { peer = record { heard = x.1.peer.heard; producer = end }; events = x.1.events ++ lines; out = x.1.out ++ []; resolved = [] })

        abbrev w5 : PlainWorld
        w5 = with_node_at w2 m posts.0

        abbrev w6 : PlainWorld
        w6 = world_at w0 r0 n link0 found y

        nodes_same : (k : ℕ) → w6.nodes k ≡ w5.nodes k
        nodes_same k = elim (k == m) as (λ b. (if b then Some posts.0 else w0.nodes k) ≡ (if b then Some posts.0 else (if b then Some told_x.0 else w0.nodes k))) [ true ↦ refl | false ↦ refl ]

        readable : All Readable fs
        readable = let talk = (link_now w0 r0 n link0 found fs told_x told_now).talk in readable_up there fs talk.asked talk.ups

        agrees6 : AgreesIn (answering l fs) w6 (after_lines r4 posts.1) went.1.0
        agrees6 = reread w5 w6 (after_lines r4 posts.1) went.1.0 l there fs readable (ap frames_in now.heard ∙ frames-left (come link0 n)) (ap left_of now.heard ∙ left-left (come link0 n) ∙ sym now.heard)
            went.1.1 (put_is_found l w1.links there heard (found_at w0 r0 n link0 found told_x) refl) (record {
              powers = λ k. ap beside_in (nodes_same k);
              vbs = λ k q. ap (λ z. vb_in z q) (nodes_same k);
              shelves = λ k q. ap (λ z. shelf_in z q) (nodes_same k);
              uuids = refl;
              linked = sym (put_twice l w1.links heard there refl ∙ put_twice l w0.links there there refl);
            })

        -- what was read with all of it
        read6 : after_lines r0 (x.1.events ++ lines) ≡ after_lines r4 posts.1
        read6 = told_more r0 x.1.events lines ∙ ap (λ z. after_lines z (changes ++ posts.1)) counted_tells ∙ after_more r3 changes posts.1

        counted_on : So fs y
        counted_on = record {
          cluster = went.1.0;
          lawful = before_more r0 x.1.events lines now.lawful lawful;
          agrees = subst (λ z. AgreesIn (answering l fs) w6 z went.1.0) (sym read6) agrees6;
          calm = subst (λ (k : Chronicle). AllDurable k.made) (sym read6) went.2;
          desk = now.desk;
          heard = now.heard;
          ranged = posts_ranged m reply.resolved last_node ranged4;
        }

        -- the lines of the changes that came with it
        told_is : map (Event.Changed end.desk.node f.vb_or_status reply.branch) reply.changes ≡ changes
        told_is =
            ap (λ k. map (Event.Changed k f.vb_or_status reply.branch) reply.changes) (ap (λ d. d.node) now.desk)
            ∙ ap (λ k. own_lines m k reply) vb_is
            ∙ settled_told m v (quiet_reply VbAnswer.Done) acked_vb (newest_branch acked_vb.log) settles_on.cs refl settles_on.changes (ap newest_branch settles_on.log)

        abbrev with_changes : List Event → PlainNode × PeerResult
        with_changes cs = came_of w0 r0 n link0 found x (last_states, record s { events = counted ∷ cs; resolved = reply.resolved })

        taken_now : So fs (came_of w0 r0 n link0 found x (step_came (and_settled (acked_vb, quiet_reply VbAnswer.Done))))
        taken_now = subst (λ cs. So fs (with_changes cs)) (sym told_is) counted_on

      -- by whether it is active, and has all up to there
      by_row : (active above : Bool) → is_active pv.role ≡ active → nat_lt pv.position.at seq ≡ above
          → So fs (came_of w0 r0 n link0 found x (step_came (if active then (if above then (pv, refusal_reply Status.Erange) else and_settled (record pv { acks = with_ack pv.acks member seq }, quiet_reply VbAnswer.Done)) else (pv, refusal_reply Status.NotMyVbucket))))
      by_row true true e high = refused_now Status.Erange (with_vb_at x.0.vbs v pv) put_again
      by_row true false e high = taken_now e high
      by_row false above e high = refused_now Status.NotMyVbucket (with_vb_at x.0.vbs v pv) put_again

    -- what was made of the frame, by what it was weighed as
    abbrev weighed_came : Result ℕ Status → States × Served
    weighed_came x' = after (count_requested f seq s x') x.0.vbs

    counts : (member : ℕ) → weight ≡ Ok member → So fs (came_of w0 r0 n link0 found x (weighed_came (Ok member)))
    counts member is = subst (λ k. So fs (came_of w0 r0 n link0 found x (let z = call_at x.0.vbs k (VbCall.Ack member seq) (x.0.vbs k) in (z.0, count_answered f member seq s z.1)))) (sym vb_is) (by (x.0.vbs v) refl)
      where
        by : (there : Option Plain) → x.0.vbs v ≡ there → So fs (came_of w0 r0 n link0 found x (let z = call_at x.0.vbs v (VbCall.Ack member seq) there in (z.0, count_answered f member seq s z.1)))
        by None none = refused_now Status.NotMyVbucket x.0.vbs (λ q. refl)
        by (Some pv) known = by_row member (member_is member is) (is_live member is) pv known (is_active pv.role) (nat_lt pv.position.at seq) refl refl

    by_weight : (o' : Result ℕ Status) → weight ≡ o' → So fs (came_of w0 r0 n link0 found x (weighed_came o'))
    by_weight (Err st) e = refused_now st x.0.vbs (λ q. refl)
    by_weight (Ok member) e = counts member e

    answered_is : frame_answered f s ≡ acknowledged f seq s
    answered_is = ap (λ g. frame_answered g s) it.1 ∙ ack_answered o v seq s it.2 ∙ ap (λ g. acknowledged g seq s) (sym it.1)

    -- the acknowledgement is answered
    seqno_next : So fs (frame_up f x)
    unfolding acknowledged
    seqno_next =
        let shaken : is_open s.end.handshake ≡ true = ap is_open (t.server ∙ all_set link0.consumer.dialed) in
        subst (So fs) (sym (frame_came w0 r0 n link0 found f x ∙ ap (λ p. came_of w0 r0 n link0 found x (after p x.0.vbs)) answered_is
        ∙ ap (λ b. came_of w0 r0 n link0 found x (after (if b then count_requested f seq s weight else Done (status_sent f Status.Einval s)) x.0.vbs)) shaken)) (by_weight weight refl)

  -- it is one of bytes: the producer has another window, and else all is as it was
  bytes_next : (f : Frame) (fs : List Frame) (x : PlainNode × PeerResult) (now : So (f ∷ fs) x) → CountsNow f fs x now → StandsWith f fs x now (rest_now f fs x now) → IsBytesAcknowledgement o f → So fs (frame_up f x)
  bytes_next f fs x now t left (bytes, is, low) =
      let s : Served = begun x.1.peer.producer in let r : Chronicle = after_lines r0 x.1.events in let named : Named = Named.Member link0.consumer.dialed.node in
      let opened : s.end.handshake ≡ Handshake.Open true named = t.server ∙ all_set link0.consumer.dialed in
      let frame : Frame = dcp_frame (DcpMsg.BufferAcknowledgement bytes) o 0 in
      let end : PlainProducer = passed_end s frame bytes true named in
      let here : PlainLink = served_at w0 r0 n link0 found x.1 in
      let la : LinkAgrees (world_at w0 r0 n link0 found x) r now.cluster here (f ∷ fs) [] = link_now w0 r0 n link0 found (f ∷ fs) x now in
      let rest : List Frame = fs ++ la.talk.ups.behind in
      let y : PlainNode × PeerResult = answered_at w0 r0 n link0 found x x.0.vbs end [] [] in
      let came : frame_answered f s ≡ Done (record s { end = end }) = ap (λ g. frame_answered g s) is ∙ bytes_answered o bytes s true named low opened in
      subst (So fs) (sym (frame_came w0 r0 n link0 found f x ∙ ap (λ p. came_of w0 r0 n link0 found x (after p x.0.vbs)) came))
      (quiet_at w0 r0 n link0 found (f ∷ fs) fs x now x.0.vbs (λ q. refl) end [] [] refl (λ v id has. has) (none_before r) r refl (told_of_same l r) refl refl refl refl
      (talk_same refl (same_vbs w0 r0 n link0 found x y (λ q. refl) end.desk.node v) refl refl refl refl (record {
        asked = rest;
        said = la.talk.said;
        stands = stands_served left end (record { desk = refl; handshake = sym opened; asked = refl; streams = refl });
        ups = next_up here end (link0.down ++ (x.1.out ++ [])) f f f fs rest (subst (UpIs here (f ∷ fs)) la.talk.ups.joined la.talk.ups);
        downs = subst (λ out. DownAgrees (record here { server = end; down = link0.down ++ out }) [] la.talk.said) (sym (append-nil x.1.out)) (record { behind = la.talk.downs.behind; joined = la.talk.downs.joined; bytes = la.talk.downs.bytes; readable = la.talk.downs.readable });
      })))

  module _ (f : Frame) (fs : List Frame) (x : PlainNode × PeerResult) (now : So (f ∷ fs) x) where
    -- an acknowledgement is answered
    ack_next : (t : CountsNow f fs x now) → StandsWith f fs x now (rest_now f fs x now) → IsAcknowledgement t.granted_is.wrote o v f → So fs (frame_up f x)
    ack_next t left ack = ⊎_elim (λ it. seqno_next f fs x now t left it) (λ it. bytes_next f fs x now t left it) ack

    -- what a consumer with a stream sent is answered, or heard
    pub upward_next : (given : StreamingWith f fs x now (la_now f fs x now).talk.asked) → (after_lines r0 x.1.events).stated_of l ≡ stated_in given.serving.handing → So fs (frame_up f x)
    upward_next given said = by (upward_front wrote o v answers f rest acks)
      where
        rest : List Frame
        rest = rest_now f fs x now

        wrote : List ℕ
        wrote = given.granted_is.wrote

        answers : List Frame
        answers = answers_in o given.handing

        acks : UpwardIs wrote o v answers (f ∷ rest)
        acks = subst (UpwardIs wrote o v answers) (la_now f fs x now).talk.ups.joined given.acks

        by : IsUpward wrote o v f → So fs (frame_up f x)
        by (inl ack) = ack_next (streaming_counts given) (EndsStand.IsStreaming (acks_left given rest (upward_behind wrote o v answers f rest acks (ack_unanswered wrote o v f ack))) said) ack
        by (inr answer) = pended_heard w0 r0 n link0 found f fs x now answer (acks_left given (f ∷ rest) acks) said

    -- the same of an heir's
    pub heir_next : HeirWith f fs x now (la_now f fs x now).talk.asked → (after_lines r0 x.1.events).stated_of l ≡ Some Role.Active → So fs (frame_up f x)
    heir_next given said = by (upward_front wrote o v answers f rest acks)
      where
        rest : List Frame
        rest = rest_now f fs x now

        wrote : List ℕ
        wrote = given.granted_is.wrote

        answers : List Frame
        answers = heir_answers o given.answered

        acks : UpwardIs wrote o v answers (f ∷ rest)
        acks = subst (UpwardIs wrote o v answers) (la_now f fs x now).talk.ups.joined given.acks

        by : IsUpward wrote o v f → So fs (frame_up f x)
        by (inl ack) = ack_next (heir_counts given) (EndsStand.IsHeir (heir_left given rest (upward_behind wrote o v answers f rest acks (ack_unanswered wrote o v f ack))) said) ack
        by (inr answer) = owned_heard w0 r0 n link0 found f fs x now answer (heir_left given (f ∷ rest) acks) said
