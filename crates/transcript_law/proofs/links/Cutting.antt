-- a link that ends: its stream is closed at its producer's vBucket
use Rattle.std.specs.Prelude.{◌≡◌, ◌⊎◌, ◌∷◌, ◌==◌, if◌then◌else◌}
use Rattle.transcript_law.proofs.Words.{ℕ, Bool, true, false, cond, List, [], refl, ap, sym, ◌∙◌, subst, inl, inr, ⊎_elim, Option, Some, None, not, eqb-true, ne_eqb, Frame, Granted, Member, Role}
use Rattle.transcript_law.proofs.Words.{Stream, Plain, Done, Call, after, States, with_vb_at, call_at, stream_at, Sound, StaysSound, row_out, Cluster, PlainStream, PlainLink, link_number}
use Rattle.transcript_law.proofs.Words.{producer_node, PlainNode, PlainWorld, with_node_at, with_links, with_states, vb_in, node_if, unlinked, Chronicle, VbCall, Prog, without_stream, close_row}
use Rattle.transcript_law.proofs.Words.{streams_closed, end_closed}
use Rattle.transcript_law.proofs.invariant.Seats.{seat}
use Rattle.transcript_law.proofs.invariant.Agreement.{vb_of, AgreesAt, EndsStand, VbAgrees, LinkAgrees, Busy, AgreesIn, Wants, kept_stream}
use Rattle.transcript_law.proofs.invariant.Carrying.{Relinked, BecameOver}
use Rattle.transcript_law.proofs.invariant.Carried.{stream_opened}
use Rattle.transcript_law.specs.Feeding.{HasOpen}
use Rattle.transcript_law.proofs.verbs.NodeLines.{shelves_again, shelves_put, node_of_same_vbs, node_changed}

-- streams of other numbers stay
pub closed_others : (id x : ℕ) (streams : List Stream) → (x ≡ id → ⊥) → stream_at x (without_stream id streams) ≡ stream_at x streams
closed_others id x [] ne = refl
closed_others id x (s ∷ ss) ne = by (closed_others id x ss ne) (s.id == id) refl
  where
    by : stream_at x (without_stream id ss) ≡ stream_at x ss → (b : Bool) → (s.id == id) ≡ b
        → stream_at x (cond (not b) (s ∷ without_stream id ss) (without_stream id ss)) ≡ (if s.id == x then Some s else stream_at x ss)
    by more true e = more ∙ sym (ap (λ b. if b then Some s else stream_at x ss) (ne_eqb s.id x (λ q. ne (sym q ∙ eqb-true s.id id e))))
    by more false e = ap (λ o. if s.id == x then Some s else o) more

-- a link has no stream, or one, which, where it is open, is at a sound vBucket of its producer, the one that it feeds
abbrev pub IsClosable : PlainWorld → PlainLink → Type 0
IsClosable w link = (link.server.streams ≡ []) ⊎ ((stream : PlainStream) × (link.server.streams ≡ stream ∷ [])
    × (stream.ended ≡ false → (stream.vb ≡ link.consumer.dialed.vb) × (pv : Plain) × (vb_of w (producer_node link) link.consumer.dialed.vb ≡ Some pv) × Sound pv))

pub closable : (busy : Busy) (w : PlainWorld) (r : Chronicle) (c : Cluster) (link : PlainLink) (up down : List Frame) → AgreesIn busy w r c → LinkAgrees w r c link up down → IsClosable w link
closable busy w r c link up down a la = by la.talk.stands
  where
    sound : (stream : PlainStream) → HasOpen stream.vb stream.id link.server.streams → (stream.vb ≡ link.consumer.dialed.vb) × (pv : Plain) × (vb_of w (producer_node link) link.consumer.dialed.vb ≡ Some pv) × Sound pv
    sound stream has =
        let (pv, is, feeds, s, opened, at) = stream_opened w r c link up down la stream.vb stream.id has in
        let agrees : VbAgrees r (producer_node link) link.consumer.dialed.vb (c.nodes (seat (producer_node link) link.consumer.dialed.vb)) pv
        = subst (AgreesAt r (producer_node link) link.consumer.dialed.vb (c.nodes (seat (producer_node link) link.consumer.dialed.vb))) is (a.vbs (producer_node link) link.consumer.dialed.vb) in
        (sym at, pv, is, agrees.sound)

    kept : (stream : PlainStream) (over : Bool) → link.server.streams ≡ kept_stream over stream → IsClosable w link
    kept stream true e = inl e
    kept stream false e = inr (stream, e, λ ended. sound stream (subst (HasOpen stream.vb stream.id) (sym e) (inl (refl, refl, ended))))

    by : {fv : Wants} {kn : Member} {pv : Option Plain} {leader : Member} {g : Option Granted} {said_last : Option Role} {point : Option ℕ} {asked said : List Frame} → EndsStand fv kn pv leader g said_last point link.server link.consumer asked said → IsClosable w link
    by (EndsStand.IsAsking ask none t) = inl t.no_stream
    by (EndsStand.IsRefusedYet none t) = inl t.no_stream
    by (EndsStand.IsStreaming t stated) = kept t.stream t.granted_is.over t.stream_is
    by (EndsStand.IsHeir t stated) = kept t.stream t.granted_is.over t.stream_is

module _ (stays : StaysSound) (w : PlainWorld) (link : PlainLink) where
  abbrev p : ℕ
  p = producer_node link

  abbrev v : ℕ
  v = link.consumer.dialed.vb

  abbrev rest : List PlainLink
  rest = row_out link_number (link_number link) w.links

  -- a stream is closed there, if it is open
  abbrev closing : Bool → ℕ → ℕ → Prog (Unit {0})
  closing ended q id = if ended then Done tt else Call q (VbCall.CloseStream id) (λ reply. Done tt)

  -- the world without the link, by its streams and its producer's node
  abbrev without : List PlainStream → Option PlainNode → PlainWorld
  without streams node = with_links (node_if p (λ x. with_states x (after (streams_closed streams) x.vbs).0) w node) rest

  -- a node whose vBuckets are as they were
  kept : (node : PlainNode) (states : States) → w.nodes p ≡ Some node → ((q : ℕ) → states q ≡ node.vbs q) → Relinked w (with_links (with_node_at w p (with_states node states)) rest) rest
  kept node states known same =
      let one = node_of_same_vbs w p node (with_states node states) known same (λ q. refl) refl in
      record { powers = one.powers; vbs = one.vbs; shelves = one.shelves; uuids = one.uuids; linked = refl }

  -- the one stream of the link
  module _ (stream : PlainStream) where
    open stream use {id}

    abbrev closed_vb : Plain → Plain
    closed_vb pv = (close_row pv id).0

    -- the node after its open stream was closed
    closed_states : (node : PlainNode) (pv : Plain) → stream.vb ≡ v → node.vbs v ≡ Some pv → (after (closing false stream.vb id) node.vbs).0 ≡ with_vb_at node.vbs v (closed_vb pv)
    closed_states node pv at has =
        ap (λ q. (after (closing false q id) node.vbs).0) at
        ∙ ap (λ o. (call_at node.vbs v (VbCall.CloseStream id) o).0) has

    by_ended : (has : link.server.streams ≡ stream ∷ []) → (stream.ended ≡ false → (stream.vb ≡ v) × (pv : Plain) × (vb_of w p v ≡ Some pv) × Sound pv) → (b : Bool) → stream.ended ≡ b → (o : Option PlainNode) → w.nodes p ≡ o
        → BecameOver w (with_links (node_if p (λ x. with_states x (after (closing b stream.vb id) x.vbs).0) w o) rest) link
    by_ended has can true ended None known = inl (record { powers = λ m. refl; vbs = λ m q. refl; shelves = λ m q. refl; uuids = refl; linked = refl })
    by_ended has can true ended (Some node) known = inl (kept node node.vbs known (λ q. refl))
    by_ended has can false ended None known =
        let (at, pv, is, sound) = can ended in
        let none : vb_of w p v ≡ None = ap (λ o. vb_in o v) known in
        let z : Some pv ≡ None = sym is ∙ none in
        cc
    by_ended has can false ended (Some node) known =
        let (at, pv, is, sound) = can ended in
        let here : node.vbs v ≡ Some pv = sym (ap (λ o. vb_in o v) known) ∙ is in
        let states : States = (after (closing false stream.vb id) node.vbs).0 in
        let one = node_changed w p v node (with_states node states) (closed_vb pv) known (λ q. ap (λ st. st q) (closed_states node pv at here)) (λ q o. refl) refl in
        inr (
          id,
          pv,
          closed_vb pv,
          subst (HasOpen v id) (sym has) (inl (at, refl, ended)),
          is,
          record { sound = stays pv (VbCall.CloseStream id) sound tt; alone = refl; others = λ x ne. closed_others id x pv.streams ne },
          record { powers = one.powers; here = one.here; there = one.there; shelves = one.shelves; uuids = one.uuids; linked = refl },
          shelves_again w p node (with_states node states) (λ q. refl) p v ∙ shelves_put w p node known p v,
        )

  module _ (can : IsClosable w link) where
    -- there is none
    by_none : (node : Option PlainNode) → w.nodes p ≡ node → BecameOver w (without [] node) link
    by_none None known = inl (record { powers = λ m. refl; vbs = λ m q. refl; shelves = λ m q. refl; uuids = refl; linked = refl })
    by_none (Some node) known = inl (kept node node.vbs known (λ q. refl))

    -- the world without the link
    pub unlinking : BecameOver w (unlinked link w) link
    unfolding end_closed
    unlinking = ⊎_elim
        (λ none. subst (λ streams. BecameOver w (without streams (w.nodes p)) link) (sym none) (by_none (w.nodes p) refl))
        (λ one. subst (λ streams. BecameOver w (without streams (w.nodes p)) link) (sym one.1) (by_ended one.0 one.1 one.2 one.0.ended refl (w.nodes p) refl))
        can
