-- lines that move a consumer's bytes to its producer: all lines are lawful, and after them all agree
use Rattle.std.specs.Prelude.{◌≡◌, ◌∷◌, ◌++◌}
use Rattle.node_world.specs.Links.{frame_up, frames_up, untold_peer}
use Rattle.transcript_law.proofs.Words.{ℕ, List, [], refl, ap, sym, ◌∙◌, subst, append-nil, Some, Frame, frames_in, left_of, StaysSound, row_at, PeerResult, PlainLink, link_number, producer_node, consumer_node, moved_len, peer_of, up_at}
use Rattle.transcript_law.proofs.Words.{PlainNode, PlainWorld, with_node_at, with_link, on_link, Chronicle, after_lines, moved, up_moved, StreamName}
use Rattle.transcript_law.proofs.invariant.Agreement.{vb_of, consumer_seat, producer_seat, Talk, LinkAgrees, idle, Agrees, EndsStand, GoesOn, spoken, wants_of}
use Rattle.transcript_law.proofs.{invariant.Carried.{told_of_same, one_here, one_idle, one_none, talk_same}, invariant.Carrying.{Relinked}, links.Counting.{heir_next, upward_next}, verbs.NodeLines.{as_told, on_link_goes, node_of_same_vbs}, invariant.OneLink.{mine, carries_link, carries_same}}
use Rattle.transcript_law.proofs.{invariant.LinkRows.{found_is_link}, invariant.Noted.{AllNoted}, invariant.Ranged.{IsRanged, NodeRanged, NodeRangedIf}, lines.Takeovers.{lines_takeovers}, verbs.Settling.{Steady}, links.Talks.{come, read_link, read_talk}, lines.Telling.{none_before, before_all}, links.Unread.{answering}}
use Rattle.transcript_law.specs.LawfulAnswers.{AllDurable}
use Rattle.transcript_law.proofs.links.Upward.{Now, asking_next, link_now, served_at, world_at}

no_frames : {A : Type 0} (f : Frame) (fs : List Frame) → [] ≡ f ∷ fs → A
no_frames f fs e = cc

module _ (stays : StaysSound) (steady : Steady) (w : PlainWorld) (r : Chronicle) (n : ℕ) (link : PlainLink) (found : row_at link_number (link_number link) w.links ≡ Some link) (noted : (r.takeover_of (link_number link)).dialed ≡ link.consumer.dialed.takeover) where
  abbrev l : ℕ
  l = link_number link

  -- one frame is answered
  pub one_answered : (f : Frame) (fs : List Frame) (x : PlainNode × PeerResult) → Now w r n link found (f ∷ fs) x → Now w r n link found fs (frame_up f x)
  one_answered f fs x now = by la.talk.stands
    where
      la : LinkAgrees (world_at w r n link found x) (after_lines r x.1.events) now.cluster (served_at w r n link found x.1) (f ∷ fs) []
      la = link_now w r n link found (f ∷ fs) x now

      by : EndsStand (wants_of la.follower) (now.cluster.nodes (consumer_seat link)) (vb_of (world_at w r n link found x) (producer_node (served_at w r n link found x.1)) link.consumer.dialed.vb)
          (now.cluster.nodes (producer_seat (served_at w r n link found x.1))) ((after_lines r x.1.events).stream_of (StreamName.Link l) link.consumer.dialed.vb) ((after_lines r x.1.events).stated_of l) ((after_lines r x.1.events).point_of l) x.1.peer.producer link.consumer la.talk.asked (spoken la.talk.said)
          → Now w r n link found fs (frame_up f x)
      by (EndsStand.IsAsking ask none t) = asking_next w r n link found f fs x now ask none (ap (λ k. (k l).dialed) (lines_takeovers r x.1.events) ∙ noted) t
      by (EndsStand.IsRefusedYet none t) = no_frames f (fs ++ la.talk.ups.behind) (sym t.asked_is ∙ la.talk.ups.joined)
      by (EndsStand.IsStreaming t said) = upward_next stays steady w r n link found f fs x now t said
      by (EndsStand.IsHeir t said) = heir_next stays steady w r n link found f fs x now t said

  -- all frames are answered
  all_answered : (fs : List Frame) (x : PlainNode × PeerResult) → Now w r n link found fs x → Now w r n link found [] (frames_up fs x)
  all_answered [] x now = now
  all_answered (f ∷ fs) x now = all_answered fs (frame_up f x) (one_answered f fs x now)

  module _ (node : PlainNode) (known : w.nodes (producer_node link) ≡ Some node) (ranged : NodeRanged (producer_node link) node) where
    abbrev bytes : List ℕ
    bytes = come link n

    -- the node and the connection before a frame is answered
    abbrev pub first : PlainNode × PeerResult
    first = (node, untold_peer (record (peer_of link) { heard = left_of bytes }))

    same : Relinked w (with_node_at w (producer_node link) node) w.links
    same = node_of_same_vbs w (producer_node link) node node known (λ q. refl) (λ q. refl) refl

    same_vbs : (k q : ℕ) → vb_of (world_at w r n link found first) k q ≡ vb_of w k q
    same_vbs = same.vbs

    pub begun : AllDurable r.made → Agrees w r → Now w r n link found (frames_in bytes) first
    begun calm (c, a) =
        let la = mine idle w r r c c l link a found in
        let lb : LinkAgrees (world_at w r n link found first) r c (served_at w r n link found first.1) (frames_in bytes) [] = record {
          follower = la.follower;
          follower_is = same_vbs (consumer_node link) link.consumer.dialed.vb ∙ la.follower_is;
          follows = la.follows;
          acks = la.acks;
          dial = la.dial;
          talk = talk_same refl (same_vbs (producer_node link) link.consumer.dialed.vb) refl refl refl refl
              (subst (λ x. Talk la.follower (c.nodes (consumer_seat link)) (vb_of w (producer_node link) link.consumer.dialed.vb) (c.nodes (producer_seat link)) (r.stream_of (StreamName.Link l) link.consumer.dialed.vb) (r.stated_of l) (r.point_of l)
              (record (read_link link n (left_of bytes)) { down = x }) (frames_in bytes) []) (sym (append-nil link.down)) (read_talk link n la.talk));
        } in record {
          cluster = c;
          lawful = none_before r;
          agrees = carries_link idle (answering l (frames_in bytes)) w (world_at w r n link found first) r r c l link (served_at w r n link found first.1) a found
              (record { dialed = refl; desk = refl }) (record { powers = same.powers; vbs = same_vbs; shelves = same.shelves; uuids = refl; linked = refl }) (λ v id has. has) (told_of_same l r) (one_idle l (frames_in bytes, []))
              (subst (λ p. LinkAgrees (world_at w r n link found first) r c (served_at w r n link found first.1) p.0 p.1) (sym (one_here l (frames_in bytes, []))) lb);
          calm = calm;
          desk = refl;
          heard = refl;
          ranged = ranged;
        }

    -- all frames that came whole were answered
    ended : (y : PlainNode × PeerResult) → Now w r n link found [] y → GoesOn r as_told (world_at w r n link found y, moved n y.1.events)
    ended y now = (
      before_all r y.1.events now.lawful,
      (
        now.cluster,
        carries_same (answering l []) idle (world_at w r n link found y) (world_at w r n link found y) (after_lines r y.1.events) now.cluster now.agrees
            (record { powers = λ k. refl; vbs = λ k q. refl; shelves = λ k q. refl; uuids = refl; linked = refl }) (one_none l),
      ),
    )

    moved_up : AllDurable r.made → Agrees w r → GoesOn r as_told (with_link link (with_node_at w (producer_node link) (up_moved link n node).0, (up_moved link n node).1))
    moved_up calm a = ended (frames_up (frames_in bytes) first) (all_answered (frames_in bytes) first (begun calm a))

-- `up L B`
pub up_goes : StaysSound → Steady → (w : PlainWorld) (r : Chronicle) (l wanted : ℕ) → IsRanged w → AllDurable r.made → AllNoted w r → Agrees w r → GoesOn r as_told (on_link w l producer_node (up_at wanted))
up_goes stays steady w r l wanted ranged calm noted a = on_link_goes w r l producer_node (up_at wanted) a
    (λ link node found known. moved_up stays steady w r (moved_len wanted link.up) link found (noted link (found_is_link (link_number link) w.links link found).0).dialed node known (subst (NodeRangedIf (producer_node link)) known (ranged (producer_node link))) calm a)
