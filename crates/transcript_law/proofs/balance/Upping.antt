-- the line `up`: the balance of its link, frame by frame
use Rattle.std.specs.Prelude.{◌≡◌, ℕ, ◌<◌, ◌≤◌, ◌^◌, ◌++◌, List, [], ◌∷◌, length, take, drop}
use Rattle.std.proofs.lemmas.List.{take-append-drop}
use Rattle.transcript_law.proofs.Words.{refl, ap, sym, ◌∙◌, subst, inl, inr, arith, append-nil, append_assoc, Some, All, All-head, All-tail, Frame, RESPONSE, Readable, spelling, frames_in, left_of, Plain, States, after, Served, begun, frame_answered, StaysSound}
use Rattle.transcript_law.proofs.Words.{row_at, PlainLink, link_number, producer_node, consumer_node, PlainNode, PlainWorld, PeerResult, Chronicle, after_lines, StreamName, peer_of, with_node_at}
use Rattle.mcbp_frame.proofs.Pieces.{frames-append}
use Rattle.node_world.specs.Links.{frame_up, frames_up, untold_peer}
use Rattle.transcript_law.proofs.balance.Rooms.{room_of}
use Rattle.transcript_law.specs.Balance.{stream_len}
use Rattle.transcript_law.proofs.balance.{Answering.{Answers, frame_becomes}, Levels.{Buffered, Holds, Level}, Measures.{frames_back, over, over_more, over_one, spelled}, Stepping.{stands_step}}
use Rattle.transcript_law.proofs.invariant.{Agreement.{Agrees, AgreesAt, EndsStand, LinkAgrees, Talk, consumer_seat, idle, producer_seat, spoken, vb_of, wants_of}, Carried.{one_here, one_idle, talk_same, told_of_same}, Carrying.{Relinked}, OneLink.{carries_link, mine}, Ranged.{NodeRanged}, Seats.{seat}}
use Rattle.transcript_law.specs.LawfulAnswers.{AllDurable}
use Rattle.transcript_law.proofs.links.{Counting.{heir_next, upward_next}, Talks.{come, read_link, read_talk}, Unread.{answering}, Upward.{Now, asking_next, came_of, frame_came, link_now, served_at, vb_here, world_at}}
use Rattle.transcript_law.proofs.{lines.Takeovers.{lines_takeovers}, lines.Telling.{none_before}, verbs.NodeLines.{node_of_same_vbs}, verbs.Settling.{Steady}}

-- what is heard and what is to come are the frames behind those that are about to be taken
module _ (heard moving : List ℕ) (busy behind : List Frame) where
  pub later_frames : heard ++ moving ≡ spelled behind → All Readable (busy ++ behind) → frames_in (heard ++ moving) ≡ behind
  later_frames bytes good = ap frames_in bytes ∙ frames_back behind (All-behind busy good)
    where
      All-behind : (fs : List Frame) → All Readable (fs ++ behind) → All Readable behind
      All-behind [] all = all
      All-behind (f ∷ fs) all = All-behind fs (All-tail Readable f (fs ++ behind) all)

module _ (stays : StaysSound) (steady : Steady) (w : PlainWorld) (r : Chronicle) (n : ℕ) (link : PlainLink) (found : row_at link_number (link_number link) w.links ≡ Some link) (noted : (r.takeover_of (link_number link)).dialed ≡ link.consumer.dialed.takeover) (buffered : Buffered link.consumer.dialed.buffer) where
  abbrev buffer : ℕ
  buffer = link.consumer.dialed.buffer

  -- the frames whose bytes are not whole yet, or on their way still
  abbrev later : List Frame
  later = frames_in (left_of (come link n) ++ drop n link.up)

  -- what is on its way down, with what was answered so far
  abbrev down_at : List ℕ → List ℕ
  down_at out = link.down_heard ++ (link.down ++ out)

  -- the balance, where these frames are about to be answered
  abbrev UpHolds : List Frame → PlainNode × PeerResult → Type 0
  UpHolds fs x = Holds buffer (room_of x.1.peer.producer) (over stream_len (down_at x.1.out)) (fs ++ later)

  module _ (fs : List Frame) (x : PlainNode × PeerResult) (now : Now w r n link found fs x) where
    abbrev la : LinkAgrees (world_at w r n link found x) (after_lines r x.1.events) now.cluster (served_at w r n link found x.1) fs []
    la = link_now w r n link found fs x now

    asked_are : la.talk.asked ≡ fs ++ later
    asked_are =
        let ups = la.talk.ups in
        let same : x.1.peer.heard ++ drop n link.up ≡ left_of (come link n) ++ drop n link.up = ap (λ h. h ++ drop n link.up) now.heard in
        ups.joined ∙ ap (λ gs. fs ++ gs) (sym (later_frames x.1.peer.heard (drop n link.up) fs ups.behind ups.bytes (subst (All Readable) ups.joined ups.readable)) ∙ ap frames_in same)

    said_spelled : down_at x.1.out ≡ spelled la.talk.said
    said_spelled = la.talk.downs.bytes ∙ ap spelled (sym la.talk.downs.joined)

    log_short : (v : ℕ) (vb : Plain) → x.0.vbs v ≡ Some vb → length vb.log ≤ 25
    log_short v vb there =
        let p : ℕ = seat (producer_node link) v in
        let agrees = subst (AgreesAt (after_lines r x.1.events) (producer_node link) v (now.cluster.nodes p)) (vb_here w r n link found x v ∙ there) (now.agrees.vbs (producer_node link) v) in
        subst (λ l. length l ≤ 25) agrees.member.log (now.agrees.sound.stands p).ancestry.short

  -- an answer counts nothing
  answer_len : (g : Frame) → g.magic ≡ RESPONSE → stream_len g ≡ 0
  answer_len g is = ap (λ m. stream_len (record g { magic = m })) is

  module _ (f : Frame) (fs : List Frame) (x : PlainNode × PeerResult) (now : Now w r n link found (f ∷ fs) x) (holds : UpHolds (f ∷ fs) x) where
    abbrev before : Served
    before = begun x.1.peer.producer

    abbrev came : States × Served
    came = after (frame_answered f before) x.0.vbs

    abbrev ups : LinkAgrees (world_at w r n link found x) (after_lines r x.1.events) now.cluster (served_at w r n link found x.1) (f ∷ fs) []
    ups = la (f ∷ fs) x now

    good : All Readable (f ∷ fs ++ later)
    good = subst (All Readable) (asked_are (f ∷ fs) x now) ups.talk.ups.readable

    small : f.opaque < 2 ^ 32
    small = (All-head Readable f (fs ++ later) good).opaque

    -- what is written behind it counts nothing
    same_down : (out : List ℕ) → Answers [] out → over stream_len (down_at (x.1.out ++ out)) ≡ over stream_len (down_at x.1.out)
    same_down out (inl none) = ap (λ o. over stream_len (down_at (x.1.out ++ o))) none ∙ ap (λ o. over stream_len (down_at o)) (append-nil x.1.out)
    same_down out (inr (g, readable, is, wrote)) =
        let behind : down_at (x.1.out ++ spelling g) ≡ down_at x.1.out ++ spelling g = ap (λ b. link.down_heard ++ b) (sym (append_assoc link.down x.1.out (spelling g))) ∙ sym (append_assoc link.down_heard (link.down ++ x.1.out) (spelling g)) in
        let more = over_more stream_len (down_at x.1.out) (spelling g) ups.talk.said ups.talk.downs.readable (said_spelled (f ∷ fs) x now) in
        let one = over_one stream_len g readable in
        let none = answer_len g is in
        ap (λ o. over stream_len (down_at (x.1.out ++ o))) wrote ∙ ap (over stream_len) behind ∙ omega (arith, more, one, none)

    next_holds : UpHolds fs (came_of w r n link found x came)
    next_holds =
        let becomes = frame_becomes f small x.0.vbs (log_short (f ∷ fs) x now f.vb_or_status) before in
        let step = stands_step (over stream_len (down_at x.1.out)) f (fs ++ later) buffered.some (let b = buffered.fits in omega arith) holds
        (subst (λ asked. EndsStand (wants_of ups.follower) (now.cluster.nodes (consumer_seat link)) (vb_of (world_at w r n link found x) (producer_node (served_at w r n link found x.1)) link.consumer.dialed.vb)
        (now.cluster.nodes (producer_seat (served_at w r n link found x.1))) ((after_lines r x.1.events).stream_of (StreamName.Link (link_number link)) link.consumer.dialed.vb) ((after_lines r x.1.events).stated_of (link_number link)) ((after_lines r x.1.events).point_of (link_number link)) x.1.peer.producer link.consumer asked (spoken ups.talk.said))
        (asked_are (f ∷ fs) x now) ups.talk.stands) in
        subst (λ k. Holds buffer (room_of came.1.end) k (fs ++ later)) (sym (same_down came.1.out becomes.1))
        (subst (λ v. Holds buffer v (over stream_len (down_at x.1.out)) (fs ++ later)) (sym becomes.0) step)

    one_up : UpHolds fs (frame_up f x)
    one_up = subst (UpHolds fs) (sym (frame_came w r n link found f x)) next_holds

    -- and all agrees
    one_now : Now w r n link found fs (frame_up f x)
    one_now = by ups.talk.stands
      where
        no_frames : [] ≡ f ∷ (fs ++ ups.talk.ups.behind) → Now w r n link found fs (frame_up f x)
        no_frames e = cc

        by : EndsStand (wants_of ups.follower) (now.cluster.nodes (consumer_seat link)) (vb_of (world_at w r n link found x) (producer_node (served_at w r n link found x.1)) link.consumer.dialed.vb)
            (now.cluster.nodes (producer_seat (served_at w r n link found x.1))) ((after_lines r x.1.events).stream_of (StreamName.Link (link_number link)) link.consumer.dialed.vb) ((after_lines r x.1.events).stated_of (link_number link)) ((after_lines r x.1.events).point_of (link_number link)) x.1.peer.producer link.consumer ups.talk.asked (spoken ups.talk.said)
            → Now w r n link found fs (frame_up f x)
        by (EndsStand.IsAsking ask none t) = asking_next w r n link found f fs x now ask none (ap (λ k. (k (link_number link)).dialed) (lines_takeovers r x.1.events) ∙ noted) t
        by (EndsStand.IsRefusedYet none t) = no_frames (sym t.asked_is ∙ ups.talk.ups.joined)
        by (EndsStand.IsStreaming t said) = upward_next stays steady w r n link found f fs x now t said
        by (EndsStand.IsHeir t said) = heir_next stays steady w r n link found f fs x now t said

  -- the frames that came whole, one after the other
  pub all_up : (fs : List Frame) (x : PlainNode × PeerResult) → Now w r n link found fs x → UpHolds fs x → (let y = frames_up fs x in Now w r n link found [] y × UpHolds [] y)
  all_up [] x now holds = (now, holds)
  all_up (f ∷ fs) x now holds = all_up fs (frame_up f x) (one_now f fs x now holds) (one_up f fs x now holds)

  module _ (node : PlainNode) (known : w.nodes (producer_node link) ≡ Some node) (ranged : NodeRanged (producer_node link) node) where
    abbrev bytes : List ℕ
    bytes = come link n

    -- the node and the connection before a frame is answered
    abbrev first : PlainNode × PeerResult
    first = (node, untold_peer (record (peer_of link) { heard = left_of bytes }))

    same : Relinked w (with_node_at w (producer_node link) node) w.links
    same = node_of_same_vbs w (producer_node link) node node known (λ q. refl) (λ q. refl) refl

    same_vbs : (k q : ℕ) → vb_of (world_at w r n link found first) k q ≡ vb_of w k q
    same_vbs = same.vbs

    first_now : AllDurable r.made → Agrees w r → Now w r n link found (frames_in bytes) first
    first_now calm (c, a) =
        let l : ℕ = link_number link in
        let la = mine idle w r r c c l link a found in
        let lb : LinkAgrees (world_at w r n link found first) r c (served_at w r n link found first.1) (frames_in bytes) [] = record {
          follower = la.follower;
          follower_is = same_vbs (consumer_node link) link.consumer.dialed.vb ∙ la.follower_is;
          follows = la.follows;
          acks = la.acks;
          dial = la.dial;
          talk = talk_same refl (same_vbs (producer_node link) link.consumer.dialed.vb) refl refl refl refl
              (subst (λ x. Talk la.follower (c.nodes (consumer_seat link)) (vb_of w (producer_node link) link.consumer.dialed.vb) (c.nodes (producer_seat link)) (r.stream_of (StreamName.Link l) link.consumer.dialed.vb) (r.stated_of l) (r.point_of l)
              (record (read_link link n (left_of bytes)) { down = x }) (frames_in bytes) []) (sym (append-nil link.down)) (read_talk link n la.talk));
        } in record {
          cluster = c;
          lawful = none_before r;
          agrees = carries_link idle (answering l (frames_in bytes)) w (world_at w r n link found first) r r c l link (served_at w r n link found first.1) a found
              (record { dialed = refl; desk = refl }) (record { powers = same.powers; vbs = same_vbs; shelves = same.shelves; uuids = refl; linked = refl }) (λ v id has. has) (told_of_same l r) (one_idle l (frames_in bytes, []))
              (subst (λ p. LinkAgrees (world_at w r n link found first) r c (served_at w r n link found first.1) p.0 p.1) (sym (one_here l (frames_in bytes, []))) lb);
          calm = calm;
          desk = refl;
          heard = refl;
          ranged = ranged;
        }

    -- the bytes that came, and those that are to come
    parted : link.up_heard ++ link.up ≡ bytes ++ drop n link.up
    parted = ap (λ b. link.up_heard ++ b) (sym (take-append-drop n link.up)) ∙ sym (append_assoc link.up_heard (take n link.up) (drop n link.up))

    first_holds : Level link → UpHolds (frames_in bytes) first
    first_holds level =
        subst (λ b. Holds buffer (room_of link.server) (over stream_len (link.down_heard ++ b)) (frames_in bytes ++ later)) (sym (append-nil link.down))
        (subst (λ fs. Holds buffer (room_of link.server) (over stream_len (link.down_heard ++ link.down)) fs) (ap frames_in parted ∙ frames-append bytes (drop n link.up)) (level buffered))

    pub up_holds : AllDurable r.made → Agrees w r → Level link → (let y = frames_up (frames_in bytes) first in Holds buffer (room_of y.1.peer.producer) (over stream_len (down_at y.1.out)) (frames_in (y.1.peer.heard ++ drop n link.up)))
    up_holds calm a level =
        let y = frames_up (frames_in bytes) first in
        let came = all_up (frames_in bytes) first (first_now calm a) (first_holds level) in
        subst (λ h. Holds buffer (room_of y.1.peer.producer) (over stream_len (down_at y.1.out)) (frames_in (h ++ drop n link.up))) (sym came.0.heard) came.1
