-- the line `up`: no end of a stream comes to be on its way, and a stream whose end is on its way is not granted anew
use Rattle.std.specs.Prelude.{◌≡◌, ◌<◌, ◌≤◌, ◌^◌, ◌∷◌, ◌++◌, ◌-◌, ◌||◌, ◌&&◌, ◌==◌, ◌⊎◌, if◌then◌else◌}
use Rattle.dcp_producer.specs.Producers.{is_open}
use Rattle.dcp_producer.specs.Serving.{acknowledged}
use Rattle.node_world.specs.Links.{frame_up, frames_up, peer_given, with_up}
use Rattle.node_world.specs.Nodes.{all_posted}
use Rattle.vb_calls.proofs.Conduct.{after_always}
use Rattle.vb_calls.specs.Programs.{AnyCall}
use Rattle.transcript_law.proofs.Words.{ℕ, Bool, true, false, not, List, [], length, refl, ap, sym, ◌∙◌, subst, inl, inr, ⊎_elim, append-nil, append_assoc, All, All-cons, All-head, All-nil, All-tail, Option, Some, Chronicle, DcpMsg, Event, Frame, Granted, Member, PeerResult, Plain, PlainConsumer, PlainLink, PlainNode, PlainProducer, PlainWorld, Prog, RESPONSE, Readable, Role, Served, States, Status, StaysSound, StreamName, after, after_lines, begun, dcp_frame, frame_answered, frames_in, link_number, message_back, moved_len, peer_of, producer_node, read_answered, row_at, spelling, status_sent, take, with_states}
use Rattle.transcript_law.proofs.balance.{Answering.{Answers, frame_becomes}, Levels.{Has}, Measures.{frame_back, frames_front, spelled}}
use Rattle.transcript_law.proofs.invariant.{Agreement.{Agrees, AgreesAt, EndsStand, IsUpward, LinkAgrees, Wants, end_reason}, Ranged.{NodeRanged}, Seats.{seat}}
use Rattle.transcript_law.proofs.links.{Heard.{state_heard}, Requests.{ack_answered}, Talks.{come}, Upward.{Now, frame_came, link_now, served_at, vb_here, world_at}}
use Rattle.transcript_law.proofs.noted.{Ending.{EndsRemain, coming_down, end_is_end, end_of, is_end}, Groups.{no_grants}, UpCome.{Still, acked, client_beside, grants, none_more}}
use Rattle.transcript_law.proofs.verbs.{Settling.{Steady}, Tellings.{are_posts}, Untaken.{is_beside}, Ups.{begun as first_now, first, one_answered}}
use Rattle.transcript_law.specs.LawfulAnswers.{AllDurable}
use Rattle.transcript_law.specs.TakeoverNotes.{is_ended}

-- one of these, or the last
has_last : (e : Frame) (fs : List Frame) (g : Frame) → Has e (fs ++ g ∷ []) → Has e fs ⊎ (g ≡ e)
has_last e [] g (inl same) = inr same
has_last e [] g (inr none) = absurd none
has_last e (f ∷ fs) g (inl same) = inl (inl same)
has_last e (f ∷ fs) g (inr later) = ⊎_elim (λ h. inl (inr h)) (λ same. inr same) (has_last e fs g later)

-- a response is no end
response_none : (g : Frame) (why o v : ℕ) → g.magic ≡ RESPONSE → g ≡ dcp_frame (DcpMsg.StreamEnd why) o v → ⊥
response_none g why o v is same =
    let some : is_end g ≡ true = ap is_end same ∙ end_is_end why o v in
    let none : is_end g ≡ false = ap (λ m. not (m == RESPONSE) && g.opcode == 0x55) is in
    cc

-- bytes that are acknowledged let nothing continue
bytes_quiet : (l o bytes : ℕ) (s : Served) (states : States) → bytes < 2 ^ 32 → grants l s.events ≡ false → (let f : Frame = dcp_frame (DcpMsg.BufferAcknowledgement bytes) o 0 in grants l (after (frame_answered f s) states).1.events ≡ false)
unfolding frame_answered dcp_frame status_sent
bytes_quiet l o bytes s states low none =
    let f : Frame = dcp_frame (DcpMsg.BufferAcknowledgement bytes) o 0 in
    subst (λ x. grants l (after (read_answered f x s) states).1.events ≡ false) (sym (message_back (DcpMsg.BufferAcknowledgement bytes) o 0 tt low)) (by (is_open s.end.handshake))
  where
    by : (b : Bool) → (let f : Frame = dcp_frame (DcpMsg.BufferAcknowledgement bytes) o 0 in grants l (if b then record s { end = record s.end { window = record s.end.window { outstanding = s.end.window.outstanding - bytes } } } else status_sent f Status.Einval s).events ≡ false)
    by true = none
    by false = none

-- what a consumer with a stream sent lets nothing continue
upward_quiet : (l o v : ℕ) (wrote : List ℕ) (f : Frame) (s : Served) (states : States) → IsUpward wrote o v f → grants l s.events ≡ false → grants l (after (frame_answered f s) states).1.events ≡ false
upward_quiet l o v wrote f s states (inl (inl (seq, is, low, one))) none =
    let g : Frame = dcp_frame (DcpMsg.SeqnoAcknowledged seq) o v in
    subst (λ (p : Prog Served). grants l (after p states).1.events ≡ false) (sym (ap (λ h. frame_answered h s) is ∙ ack_answered o v seq s low)) (after_always AnyCall (Still l s) (acknowledged g seq s) states (acked l g s none seq)).0
upward_quiet l o v wrote f s states (inl (inr (bytes, is, low))) none = subst (λ (h : Frame). grants l (after (frame_answered h s) states).1.events ≡ false) (sym is) (bytes_quiet l o bytes s states low none)
upward_quiet l o v wrote f s states (inr is) none = subst (λ (p : Prog Served). grants l (after p states).1.events ≡ false) (sym (ap (λ h. frame_answered h s) is ∙ state_heard o s)) none

-- what is on its way up of a stream that is over
upward_over : (fv : Wants) (kn : Member) (pv : Option Plain) (leader : Member) (g : Option Granted) (said : Option Role) (point : Option ℕ) (served : PlainProducer) (asker : PlainConsumer) (up down : List Frame) → EndsStand fv kn pv leader g said point served asker up down
    → is_ended g ≡ true → (wrote : List ℕ) × All (IsUpward wrote asker.asked asker.dialed.vb) up
upward_over fv kn pv leader g said point served asker up down (EndsStand.IsAsking ask none x) over = let z : false ≡ true = sym (ap is_ended none.0) ∙ over in cc
upward_over fv kn pv leader g said point served asker up down (EndsStand.IsRefusedYet none x) over = let z : false ≡ true = sym (ap is_ended none.0) ∙ over in cc
upward_over fv kn pv leader g said point served asker up down (EndsStand.IsStreaming x is) over = (x.granted_is.wrote, x.serving.acks.each)
upward_over fv kn pv leader g said point served asker up down (EndsStand.IsHeir x is) over = (x.granted_is.wrote, x.acks.each)

All_front : (P : Frame → Type 0) (xs ys : List Frame) → All P (xs ++ ys) → All P xs
All_front P [] ys all = All-nil P
All_front P (x ∷ xs) ys all = All-cons P x xs (All-head P x (xs ++ ys) all) (All_front P xs ys (All-tail P x (xs ++ ys) all))

module _ (stays : StaysSound) (steady : Steady) (w : PlainWorld) (r : Chronicle) (n : ℕ) (link : PlainLink) (found : row_at link_number (link_number link) w.links ≡ Some link) (noted : (r.takeover_of (link_number link)).dialed ≡ link.consumer.dialed.takeover) where
  abbrev l : ℕ
  l = link_number link

  abbrev o : ℕ
  o = link.consumer.asked

  abbrev v : ℕ
  v = link.consumer.dialed.vb

  -- what is on its way down, with what was answered so far
  abbrev down_at : List ℕ → List ℕ
  down_at out = link.down_heard ++ (link.down ++ out)

  abbrev Down : Frame → PlainNode × PeerResult → Type 0
  Down e x = Has e (frames_in (down_at x.1.out)) → Has e (coming_down link)

  module _ (f : Frame) (fs : List Frame) (x : PlainNode × PeerResult) (now : Now w r n link found (f ∷ fs) x) where
    abbrev s : Served
    s = begun x.1.peer.producer

    abbrev la : LinkAgrees (world_at w r n link found x) (after_lines r x.1.events) now.cluster (served_at w r n link found x.1) (f ∷ fs) []
    la = link_now w r n link found (f ∷ fs) x now

    abbrev came : States × Served
    came = after (frame_answered f s) x.0.vbs

    small : f.opaque < 2 ^ 32
    small = (All-head Readable f (fs ++ la.talk.ups.behind) (subst (All Readable) la.talk.ups.joined la.talk.ups.readable)).opaque

    short : (vb : Plain) → x.0.vbs f.vb_or_status ≡ Some vb → length vb.log ≤ 25
    short vb there =
        let q : ℕ = f.vb_or_status in let p : ℕ = seat (producer_node link) q in
        let agrees = subst (AgreesAt (after_lines r x.1.events) (producer_node link) q (now.cluster.nodes p)) (vb_here w r n link found x q ∙ there) (now.agrees.vbs (producer_node link) q) in
        subst (λ k. length k ≤ 25) agrees.member.log (now.agrees.sound.stands p).ancestry.short

    said_spelled : down_at x.1.out ≡ spelled la.talk.said
    said_spelled = la.talk.downs.bytes ∙ ap spelled (sym la.talk.downs.joined)

    -- its answer is no end
    behind_none : (e : Frame) (why p q : ℕ) → e ≡ dcp_frame (DcpMsg.StreamEnd why) p q → Has e (frames_in (down_at (x.1.out ++ came.1.out))) → Has e (frames_in (down_at x.1.out))
    behind_none e why p q end has = by (frame_becomes f small x.0.vbs short s).1
      where
        by : Answers [] came.1.out → Has e (frames_in (down_at x.1.out))
        by (inl none) = subst (λ out. Has e (frames_in (down_at out))) (ap (λ out. x.1.out ++ out) none ∙ append-nil x.1.out) has
        by (inr (g, readable, is, wrote)) =
            let bytes : down_at (x.1.out ++ came.1.out) ≡ down_at x.1.out ++ spelling g
            = ap (λ out. down_at (x.1.out ++ out)) wrote ∙ ap (λ b. link.down_heard ++ b) (sym (append_assoc link.down x.1.out (spelling g))) ∙ sym (append_assoc link.down_heard (link.down ++ x.1.out) (spelling g)) in
            let frames : frames_in (down_at (x.1.out ++ came.1.out)) ≡ frames_in (down_at x.1.out) ++ g ∷ []
            = ap frames_in bytes ∙ frames_front (down_at x.1.out) (spelling g) la.talk.said la.talk.downs.readable said_spelled ∙ ap (λ gs. frames_in (down_at x.1.out) ++ gs) (frame_back g readable) in
            ⊎_elim (λ old. old) (λ same. absurd (response_none g why p q is (same ∙ end))) (has_last e (frames_in (down_at x.1.out)) g (subst (Has e) frames has))

    abbrev posts : List Event
    posts = (all_posted came.1.resolved (with_states x.0 came.0)).1

    one_down : (e : Frame) (why p q : ℕ) → e ≡ dcp_frame (DcpMsg.StreamEnd why) p q → Down e x → Down e (frame_up f x)
    one_down e why p q end before = subst (Down e) (sym (frame_came w r n link found f x)) (λ has. before (behind_none e why p q end has))

    one_quiet : (wrote : List ℕ) → IsUpward wrote o v f → grants l x.1.events ≡ false → grants l (frame_up f x).1.events ≡ false
    one_quiet wrote up before = subst (λ y. grants l y.1.events ≡ false) (sym (frame_came w r n link found f x))
        (none_more l x.1.events (came.1.events ++ posts) before (none_more l came.1.events posts (upward_quiet l o v wrote f s x.0.vbs up refl)
        (no_grants l posts (are_posts is_beside (producer_node link) (client_beside (producer_node link)) came.1.resolved (with_states x.0 came.0) now.ranged.own))))

  all_down : (e : Frame) (why p q : ℕ) → e ≡ dcp_frame (DcpMsg.StreamEnd why) p q → (fs : List Frame) (x : PlainNode × PeerResult) → Now w r n link found fs x → Down e x → Down e (frames_up fs x)
  all_down e why p q end [] x now before = before
  all_down e why p q end (f ∷ fs) x now before = all_down e why p q end fs (frame_up f x) (one_answered stays steady w r n link found noted f fs x now) (one_down f fs x now e why p q end before)

  all_quiet : (wrote : List ℕ) (fs : List Frame) (x : PlainNode × PeerResult) → Now w r n link found fs x → All (IsUpward wrote o v) fs → grants l x.1.events ≡ false → grants l (frames_up fs x).1.events ≡ false
  all_quiet wrote [] x now up before = before
  all_quiet wrote (f ∷ fs) x now up before =
      all_quiet wrote fs (frame_up f x) (one_answered stays steady w r n link found noted f fs x now) (All-tail (IsUpward wrote o v) f fs up) (one_quiet f fs x now wrote (All-head (IsUpward wrote o v) f fs up) before)

  module _ (node : PlainNode) (known : w.nodes (producer_node link) ≡ Some node) (ranged : NodeRanged (producer_node link) node) (calm : AllDurable r.made) (a : Agrees w r) where
    abbrev begin : PlainNode × PeerResult
    begin = first stays steady w r n link found noted node known ranged

    abbrev last : PlainNode × PeerResult
    last = frames_up (frames_in (come link n)) begin

    abbrev now_first : Now w r n link found (frames_in (come link n)) begin
    now_first = first_now stays steady w r n link found noted node known ranged calm a

    remains : EndsRemain link (with_up link n last.1)
    remains = record {
      dialed = refl;
      coming = λ b p q has. all_down (end_of p q b) (end_reason b) p q refl (frames_in (come link n)) begin now_first (λ h. subst (λ d. Has (end_of p q b) (frames_in (link.down_heard ++ d))) (append-nil link.down) h) has;
    }

    -- where the stream is over, nothing is granted
    quiet : is_ended (r.stream_of (StreamName.Link l) v) ≡ true → grants l last.1.events ≡ false
    quiet over =
        let la = link_now w r n link found (frames_in (come link n)) begin now_first in
        let (wrote, up) = upward_over _ _ _ _ _ _ _ begin.1.peer.producer link.consumer _ _ la.talk.stands over in
        all_quiet wrote (frames_in (come link n)) begin now_first (All_front (IsUpward wrote o v) (frames_in (come link n)) la.talk.ups.behind (subst (All (IsUpward wrote o v)) la.talk.ups.joined up)) refl

-- what becomes of ends that are on their way over the link of an `up`
pub up_ends : StaysSound → Steady → (w : PlainWorld) (r : Chronicle) (wanted : ℕ) (link : PlainLink) → row_at link_number (link_number link) w.links ≡ Some link → (r.takeover_of (link_number link)).dialed ≡ link.consumer.dialed.takeover
    → (node : PlainNode) → w.nodes (producer_node link) ≡ Some node → NodeRanged (producer_node link) node → AllDurable r.made → Agrees w r
    → (let n = moved_len wanted link.up in let x = peer_given (take n link.up) (peer_of link) node in EndsRemain link (with_up link n x.1) × (is_ended (r.stream_of (StreamName.Link (link_number link)) link.consumer.dialed.vb) ≡ true → grants (link_number link) x.1.events ≡ false))
up_ends stays steady w r wanted link found noted node known ranged calm a =
    let n : ℕ = moved_len wanted link.up in
    (remains stays steady w r n link found noted node known ranged calm a, quiet stays steady w r n link found noted node known ranged calm a)
