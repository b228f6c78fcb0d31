-- `drop L`: the cursor of a link's stream is taken away at its producer's node: of that no line tells
use Rattle.std.specs.Prelude.{◌≡◌, ◌==◌, ◌∷◌, ◌⊎◌, if◌then◌else◌}
use Rattle.transcript_law.proofs.Words.{ℕ, Bool, true, false, [], List, refl, ap, sym, ◌∙◌, subst, inl, inr, ⊎_elim, arith, Option, Some, None, Chronicle, Cluster, Frame, Granted, Member, Plain, PlainLink, PlainNode, PlainStream, PlainWorld, Role, StaysSound, Stream, VbCall, after, consumer_node, link_number, map, option_map, producer_node, row_at, row_put, stream_at, with_links, with_node_at, with_states, with_vb_at, call_at, on_link, with_link, LinkResult, vb_in, Call, Done}
use Rattle.{dcp_producer.specs.Dropping.{cursor_dropped_of, flag_said}, dcp_producer.specs.Producers.{stream_at as kept_at}, node_world.specs.Links.{drop_at, drop_result}}
use Rattle.std.proofs.lemmas.Bool.{eq-eqb, eqb-true, false_from_ne_true}
use Rattle.transcript_law.proofs.invariant.Agreement.{Agrees, AgreesAt, AgreesIn, EndsStand, FeederIn, GoesOn, LinkAgrees, VbAgrees, Wants, consumer_seat, idle, kept_stream, producer_seat, vb_of}
use Rattle.transcript_law.proofs.invariant.Carried.{heir_again, open_kept, open_left, stands_again, stream_apart, stream_opened, stream_same, told_of_same}
use Rattle.transcript_law.proofs.invariant.{Carrying.{Changed, StreamsChanged}, LinkRows.{found_is_link, put_same as put_link_same}, OneLink.{carries_producer, fed_none}}
use Rattle.transcript_law.proofs.verbs.NodeLines.{agrees_same, as_told, node_changed, node_of_same_vbs, on_link_goes, shelves_again, shelves_put}
use Rattle.transcript_law.specs.{Feeding.{HasOpen}, LineAnswers.{DropsOne, IsDropped}}
use Rattle.vb_calls.{proofs.Placing.{changed_at, cursor_id, found_id}, specs.Streams.{without_cursor}, specs.Trims.{drop_row}}
use Rattle.vb_events.specs.declared.event.Answer.TheVariants.{Number}

-- a link's producer has no stream, or the one of the vBucket that the link feeds
abbrev HasOne : ℕ → List PlainStream → Type 0
HasOne v streams = (streams ≡ []) ⊎ ((stream : PlainStream) × (streams ≡ stream ∷ []) × (stream.vb ≡ v))

one_kept : (v : ℕ) (streams : List PlainStream) (over : Bool) (stream : PlainStream) → streams ≡ kept_stream over stream → stream.vb ≡ v → HasOne v streams
one_kept v streams true stream e at = inl e
one_kept v streams false stream e at = inr (stream, e, at)

has_one : {fv : Wants} {kn : Member} {pv : Option Plain} {leader : Member} {g : Option Granted} {said : Option Role} {point : Option ℕ} {up down : List Frame} (link : PlainLink)
    → EndsStand fv kn pv leader g said point link.server link.consumer up down → HasOne link.consumer.dialed.vb link.server.streams
has_one link (EndsStand.IsAsking ask none t) = inl t.no_stream
has_one link (EndsStand.IsRefusedYet none t) = inl t.no_stream
has_one link (EndsStand.IsStreaming t said) = one_kept link.consumer.dialed.vb link.server.streams t.granted_is.over t.stream t.stream_is t.streams.vb_is
has_one link (EndsStand.IsHeir t said) = one_kept link.consumer.dialed.vb link.server.streams t.granted_is.over t.stream t.stream_is t.vb_is

-- a stream that is open was granted, and its end is not told
granted_open : {fv : Wants} {kn : Member} {pv : Option Plain} {leader : Member} {g : Option Granted} {said : Option Role} {point : Option ℕ} {up down : List Frame} (link : PlainLink)
    → EndsStand fv kn pv leader g said point link.server link.consumer up down → (v id : ℕ) → HasOpen v id link.server.streams → (is : Granted) × (g ≡ Some is) × (is.over ≡ false)
granted_open link (EndsStand.IsAsking ask none t) v id has = absurd (subst (HasOpen v id) t.no_stream has)
granted_open link (EndsStand.IsRefusedYet none t) v id has = absurd (subst (HasOpen v id) t.no_stream has)
granted_open link (EndsStand.IsStreaming t said) v id has = (t.granted_is, t.told, open_left t.granted_is.over t.stream link.server.streams t.stream_is v id has)
granted_open link (EndsStand.IsHeir t said) v id has = (t.granted_is, t.told, open_left t.granted_is.over t.stream link.server.streams t.stream_is v id has)

-- a cursor that was taken away was that of an open stream
said_of : (r : Chronicle) (l : ℕ) (had : Bool) → (had ≡ true → DropsOne r l) → IsDropped r l (Number (if had then 1 else 0))
said_of r l true f = (omega arith, λ one. f refl)
said_of r l false f = (omega arith, λ one. (let z : 0 ≡ 1 = one in absurd (omega (arith, z))))

-- a stream without a cursor; of its vBucket's streams it is the one of its number, and the others are as they were
abbrev uncursored : Stream → Stream
uncursored s = record { id = s.id; ask = s.ask; sync = s.sync; place = s.place; cursor = false; taken = s.taken }

dropped_here : (id : ℕ) (ss : List Stream) (s : Stream) → stream_at id ss ≡ Some s → stream_at id (map (without_cursor id) ss) ≡ Some (uncursored s)
dropped_here id ss s e = changed_at (without_cursor id) (cursor_id false id) id ss ∙ ap (option_map (without_cursor id)) e ∙ ap (λ b. Some (if b then uncursored s else s)) (eq-eqb s.id id (found_id id ss s e))

dropped_there : (id y : ℕ) (ss : List Stream) → (y ≡ id → ⊥) → stream_at y (map (without_cursor id) ss) ≡ stream_at y ss
dropped_there id y ss ne = changed_at (without_cursor id) (cursor_id false id) y ss ∙ by (stream_at y ss) refl
  where
    by : (o : Option Stream) → stream_at y ss ≡ o → option_map (without_cursor id) o ≡ o
    by None e = refl
    by (Some s) e = ap (λ b. Some (if b then uncursored s else s)) (false_from_ne_true (s.id == id) (λ t. ne (sym (found_id y ss s e) ∙ eqb-true s.id id t)))

-- what a vBucket leaves of a stream's cursor, where the stream was open
abbrev dropped : Plain → ℕ → Plain
dropped p id = (drop_row p id).0

-- the ends stand as they did
module _ (link : PlainLink) (pv pv' : Option Plain) (p : Plain) (id : ℕ) (was : pv ≡ Some p) (is : pv' ≡ Some (dropped p id)) (has : HasOpen link.consumer.dialed.vb id link.server.streams) where
  one_is : (q : Plain) → pv ≡ Some q → q ≡ p
  one_is q e = let z : Some q ≡ Some p = sym e ∙ was in cc

  -- under whatever name of it
  here_at : (k : ℕ) → k ≡ id → (y : Stream) → stream_at k p.streams ≡ Some y → stream_at k (dropped p id).streams ≡ Some (uncursored y)
  here_at k e y at = subst (λ j. stream_at j (dropped p id).streams ≡ Some (uncursored y)) (sym e) (dropped_here id p.streams y (subst (λ j. stream_at j p.streams ≡ Some y) e at))

  pub stands_dropped : {fv : Wants} {kn : Member} {leader : Member} {g : Option Granted} {said_last : Option Role} {point : Option ℕ} {up down : List Frame} → EndsStand fv kn pv leader g said_last point link.server link.consumer up down → EndsStand fv kn pv' leader g said_last point link.server link.consumer up down
  stands_dropped (EndsStand.IsAsking ask none t) = EndsStand.IsAsking ask none t
  stands_dropped (EndsStand.IsRefusedYet none t) = EndsStand.IsRefusedYet none t
  stands_dropped {leader = leader} (EndsStand.IsStreaming t said) = stands_again t link.server.streams t.stream stream_same t.stream_is (λ going.
      let o = t.streams.opens going in
      let same : o.producer ≡ p = one_is o.producer o.producer_is in
      let named : t.stream.id ≡ id = (open_kept t.granted_is.over t.stream link.server.streams t.stream_is link.consumer.dialed.vb id has).1 in
      record {
        producer = dropped p id;
        producer_is = is;
        active = subst (λ (q : Plain). FeederIn t.handing q.role leader t.feed.given) same o.active;
        leads = o.leads;
        reached = o.reached;
        opened = (let (y, its, ask, sync, place, taken) = o.opened in (uncursored y, here_at t.stream.id named y (subst (λ (q : Plain). stream_at t.stream.id q.streams ≡ Some y) same its), ask, sync, place, taken));
      }) said
  stands_dropped (EndsStand.IsHeir t said) = EndsStand.IsHeir (heir_again t link.server.streams t.stream stream_same t.stream_is (λ going left.
      let o = t.opens going left in
      let same : o.producer ≡ p = one_is o.producer o.producer_is in
      let named : t.stream.id ≡ id = (open_kept t.granted_is.over t.stream link.server.streams t.stream_is link.consumer.dialed.vb id has).1 in
      record {
        producer = dropped p id;
        producer_is = is;
        dead = ap (λ (q : Plain). q.role) (sym same) ∙ o.dead;
        opened = (uncursored o.opened.0, here_at t.stream.id named o.opened.0 (subst (λ (q : Plain). stream_at t.stream.id q.streams ≡ Some o.opened.0) same o.opened.1));
      })) said

module _ (w : PlainWorld) (r : Chronicle) (link : PlainLink) (node : PlainNode) (c : Cluster) (a : AgreesIn idle w r c) (found : row_at link_number (link_number link) w.links ≡ Some link) where
  open link.consumer.dialed use {vb}

  abbrev n : ℕ
  n = producer_node link

  la : LinkAgrees w r c link [] []
  la = a.links link (found_is_link (link_number link) w.links link found).0

  -- one that had a cursor is of an open stream, which was granted, and of whose end no line tells
  had_open : (streams : List PlainStream) → HasOne vb streams → (after (cursor_dropped_of (kept_at vb streams)) node.vbs).1 ≡ true → (id : ℕ) × HasOpen vb id streams
  had_open streams (inl none) had = let z : false ≡ true = ap (λ ss. (after (cursor_dropped_of (kept_at vb ss)) node.vbs).1) (sym none) ∙ had in cc
  had_open streams (inr (stream, is, of)) had =
      let first : (after (cursor_dropped_of (Some stream)) node.vbs).1 ≡ true = sym (ap (λ b. (after (cursor_dropped_of (if b then Some stream else None)) node.vbs).1) (eq-eqb stream.vb vb of)) ∙ ap (λ ss. (after (cursor_dropped_of (kept_at vb ss)) node.vbs).1) (sym is) ∙ had in
      (elim stream.ended as (λ b. stream.ended ≡ b → (id : ℕ) × HasOpen vb id streams)
      [ true ↦ λ over. (let z : false ≡ true = ap (λ b. (after (if b then Done false else Call stream.vb (VbCall.DropCursor stream.id) (λ reply. Done (flag_said reply))) node.vbs).1) (sym over) ∙ first in cc) | false ↦ λ going. (stream.id, subst (HasOpen vb stream.id) (sym is) (inl (of, refl, going))) ] refl)

  pub dropped_says : IsDropped r (link_number link) (drop_at link node).1.1.answer
  dropped_says = said_of r (link_number link) (after (cursor_dropped_of (kept_at vb link.server.streams)) node.vbs).1 (λ had.
      let (id, has) = had_open link.server.streams (has_one link la.talk.stands) had in
      let (g, told, going) = granted_open link la.talk.stands vb id has in
      (record { producer = n; node = consumer_node link; vb = vb }, g, la.dialed, told, going))

module _ (stays : StaysSound) (w : PlainWorld) (r : Chronicle) (link : PlainLink) (node : PlainNode) (c : Cluster) (a : AgreesIn idle w r c) (found : row_at link_number (link_number link) w.links ≡ Some link) (at : w.nodes (producer_node link) ≡ Some node) where
  open link.consumer.dialed use {vb}

  abbrev n' : ℕ
  n' = producer_node link

  abbrev Goes : PlainNode × LinkResult → Type 0
  Goes came = GoesOn r as_told (with_link link (with_node_at w n' came.0, came.1))

  here : LinkAgrees w r c link [] []
  here = la w r link node c a found

  -- no cursor is taken away
  none_goes : Goes (drop_result link node (node.vbs, false))
  none_goes = (
    tt,
    agrees_same w (with_links (with_node_at w n' (with_states node node.vbs)) (row_put link_number (link_number link) link w.links)) r (c, a) (
        let same = node_of_same_vbs w n' node (with_states node node.vbs) at (λ q. refl) (λ q. refl) refl in
        record { powers = same.powers; vbs = same.vbs; shelves = same.shelves; uuids = refl; linked = put_link_same (link_number link) w.links link found }),
  )

  -- an open stream's is taken away
  module _ (stream : PlainStream) (kept : link.server.streams ≡ stream ∷ []) (of : stream.vb ≡ vb) (going : stream.ended ≡ false) where
    has : HasOpen vb stream.id link.server.streams
    has = subst (HasOpen vb stream.id) (sym kept) (inl (of, refl, going))

    module _ (p : Plain) (known : vb_of w n' vb ≡ Some p) (s : Stream) (opened : stream_at stream.id p.streams ≡ Some s) where
      abbrev p' : Plain
      p' = dropped p stream.id

      abbrev node' : PlainNode
      node' = with_states node (with_vb_at node.vbs stream.vb p')

      abbrev w' : PlainWorld
      w' = with_links (with_node_at w n' node') (row_put link_number (link_number link) link w.links)

      agrees : VbAgrees r n' vb (c.nodes (producer_seat link)) p
      agrees = subst (AgreesAt r n' vb (c.nodes (producer_seat link))) known (a.vbs n' vb)

      changed : StreamsChanged stream.id p p'
      changed = record { sound = stays p (VbCall.DropCursor stream.id) agrees.sound tt; alone = refl; others = λ y ne. dropped_there stream.id y p.streams ne }

      became : Changed w w' n' vb p' (row_put link_number (link_number link) link w.links)
      became =
          let x = node_changed w n' vb node node' p' at (λ q. ap (λ v. with_vb_at node.vbs v p' q) of) (λ q o. refl) refl in
          record { powers = x.powers; here = x.here; there = x.there; shelves = x.shelves; uuids = refl; linked = refl }

      link_dropped : LinkAgrees w' r c link [] []
      link_dropped = record {
        follower = here.follower;
        follower_is = became.there (consumer_node link) vb (λ q e. stream_apart w r c link [] [] here vb stream.id has (sym q)) ∙ here.follower_is;
        follows = here.follows;
        acks = here.acks;
        dial = here.dial;
        talk = record { asked = here.talk.asked; said = here.talk.said; stands = stands_dropped link (vb_of w n' vb) (vb_of w' n' vb) p stream.id known became.here has here.talk.stands; ups = here.talk.ups; downs = here.talk.downs };
      }

      agrees_dropped : AgreesIn idle w' r c
      agrees_dropped = carries_producer idle idle w w' r r c c (link_number link) link link stream.id p p' a found (record { dialed = refl; desk = refl }) known changed became
          (shelves_again w n' node node' (λ q. refl) n' vb ∙ shelves_put w n' node at n' vb)
          (inl has) (λ v k opens. ⊎_elim (λ h. (sym h.0 ∙ of, sym h.1)) (λ no. absurd no) (subst (HasOpen v k) kept opens))
          (told_of_same (link_number link) r) (fed_none (consumer_seat link) c) a.sound (λ k ne. refl) link_dropped

      at_vb : node.vbs stream.vb ≡ Some p
      at_vb = ap node.vbs of ∙ ap (λ o. vb_in o vb) (sym at) ∙ known

    -- as its vBucket is there
    one_goes : Goes (drop_result link node (after (cursor_dropped_of (Some stream)) node.vbs))
    one_goes =
        let (p, known, feeds, s, opened, same) = stream_opened w r c link [] [] here vb stream.id has in
        subst (λ b. Goes (drop_result link node (after (if b then Done false else Call stream.vb (VbCall.DropCursor stream.id) (λ reply. Done (flag_said reply))) node.vbs))) (sym going)
        (subst (λ o. Goes (drop_result link node (let (states, reply) = call_at node.vbs stream.vb (VbCall.DropCursor stream.id) o in (states, flag_said reply)))) (sym (at_vb p known s opened))
        (tt, (c, agrees_dropped p known s opened)))

  stream_goes : (streams : List PlainStream) → link.server.streams ≡ streams → HasOne vb streams → Goes (drop_result link node (after (cursor_dropped_of (kept_at vb streams)) node.vbs))
  stream_goes streams e (inl none) = subst (λ ss. Goes (drop_result link node (after (cursor_dropped_of (kept_at vb ss)) node.vbs))) (sym none) none_goes
  stream_goes streams e (inr (stream, is, of)) = subst (λ ss. Goes (drop_result link node (after (cursor_dropped_of (kept_at vb ss)) node.vbs))) (sym is)
      (subst (λ b. Goes (drop_result link node (after (cursor_dropped_of (if b then Some stream else None)) node.vbs))) (sym (eq-eqb stream.vb vb of))
      (elim stream.ended as (λ b. stream.ended ≡ b → Goes (drop_result link node (after (cursor_dropped_of (Some stream)) node.vbs)))
      [ true ↦ λ over. subst (λ b. Goes (drop_result link node (after (if b then Done false else Call stream.vb (VbCall.DropCursor stream.id) (λ reply. Done (flag_said reply))) node.vbs))) (sym over) none_goes | false ↦ λ going. one_goes stream (e ∙ is) of going ] refl))

  pub dropped_goes : Goes (drop_at link node)
  dropped_goes = stream_goes link.server.streams refl (has_one link here.talk.stands)

-- all agrees behind `drop L`
pub drop_goes : StaysSound → (w : PlainWorld) (r : Chronicle) (l : ℕ) → Agrees w r → GoesOn r as_told (on_link w l producer_node drop_at)
drop_goes stays w r l a = on_link_goes w r l producer_node drop_at a (λ link node found at. dropped_goes stays w r link node a.0 a.1 found at)
