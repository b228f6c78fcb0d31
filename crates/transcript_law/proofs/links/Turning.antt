-- a vBucket in another role: its streams are ended, at all links
use Rattle.std.specs.Prelude.{◌≡◌, ◌∷◌, ◌==◌, ◌&&◌, ◌⊎◌, if◌then◌else◌}
use Rattle.transcript_law.proofs.{disks.Disks.{disk_same, parts_of, same_parts, sealed_disk}, Words.{IsIn, eq-eqb, eqb-true, hist, ne_eqb, option_map, put, with_seal}, invariant.Carried.{all_vbs}}
use Rattle.transcript_law.proofs.{invariant.Agreement.{node_known, DiskIsIf, shelf_of}}
use Rattle.transcript_law.proofs.Words.{ℕ, Bool, true, false, List, arith, refl, ap, sym, ◌∙◌, subst, inl, inr, ⊎_elim, map, Option, Some, None}
use Rattle.transcript_law.proofs.Words.{eqb-true, eqb-false, Frame, Feed, Member, Role, Cluster, SoundCluster, Stream, Plain, is_follower, stream_ids, stream_at, ended_in, PlainStream, PlainLink}
use Rattle.transcript_law.proofs.Words.{link_number, producer_node, consumer_node, PlainWorld, link_ended, links_ended, Granted, Chronicle, [], list_any, StreamName, ended_by}
use Rattle.transcript_law.proofs.invariant.Seats.{seat, seats_apart}
use Rattle.transcript_law.specs.Feeding.{HasFed, HasOpen, client_in}
use Rattle.transcript_law.proofs.invariant.Agreement.{FollowsBy, Handing, Heir, OpenYet, AckedIs, vb_of, AgreesAt, Open, kept_stream, Talk, consumer_seat, producer_seat, LinkAgrees, IsLink, Differ, DifferFrom, LinksDiffer, top, idle, AgreesIn, BranchesAgree, Wants, EndsStand, DialAgrees}
use Rattle.transcript_law.proofs.invariant.Carried.{as_far, fed_same, feeder_moved, heir_again, kept_open, left_open, owns_alone, places, stream_opened, stands_again, stream_same, talk_same}
use Rattle.transcript_law.proofs.{invariant.Agreement.{EndsUp, RestsIn, VbRow, vb_row}, invariant.Carrying.{FedMember, NoNewStream, SameArms, SameEnds}, invariant.Resting.{ends_off, offs_arms, rests_arms}}
use Rattle.transcript_law.proofs.invariant.{Carried.{all_there}, ClientsKept.{fewer_at, fewer_now, goes_agreed_at}, Owed.{Fewer}, ClientsTurned.{RoleTold, StreamsEnded, all_ended, clients_turned, ended_same, id_listed}, LinkFeeds.{link_feeds}, LinkRows.{found_is_link}, Trees.{IsTold}}
use Rattle.{node_core.specs.Clients.{PlainClient, client_ended}, transcript_law.specs.ClientStreams.{past_turn, with_clients_of}}
use Rattle.transcript_law.proofs.invariant.Owing.{Later}
use Rattle.takeover.specs.declared.take_over.TakeOver.{TakeOver}

-- a link whose producer keeps other streams
abbrev pub restreamed : PlainLink → List PlainStream → PlainLink
restreamed link streams = record link { server = record link.server { streams = streams } }

-- a stream that is not ended by it is not one of these
pub not_ended : (v : ℕ) (ids : List ℕ) (stream : PlainStream) → (ended_in v ids stream).ended ≡ false → (stream.ended ≡ false) × (stream.vb ≡ v → list_any (λ i. i == stream.id) ids ≡ true → ⊥)
not_ended v ids stream = by (stream.vb == v) (list_any (λ i. i == stream.id) ids) refl refl
  where
    by : (a b : Bool) → (stream.vb == v) ≡ a → list_any (λ i. i == stream.id) ids ≡ b → (if a && b then record stream { ended = true } else stream).ended ≡ false
        → (stream.ended ≡ false) × (stream.vb ≡ v → list_any (λ i. i == stream.id) ids ≡ true → ⊥)
    by true true e f q = let z : true ≡ false = q in cc
    by true false e f q = (q, λ s t. let z : false ≡ true = sym f ∙ t in cc)
    by false b e f q = (q, λ s t. eqb-false stream.vb v e s)

-- links after a change of role
pub told_is_link : (n v : ℕ) (ids : List ℕ) (links : List PlainLink) (y : PlainLink) → IsLink y (links_ended n v ids links) → (x : PlainLink) × IsLink x links × (y ≡ link_ended n v ids x)
told_is_link n v ids [] y i = absurd i
told_is_link n v ids (x ∷ xs) y i = ⊎_elim (λ e. (x, inl refl, e)) (λ j. let k = told_is_link n v ids xs y j in (k.0, inr k.1, k.2)) i

-- a link after it, in its two forms
pub told_by : (n v : ℕ) (ids : List ℕ) (x : PlainLink) (P : PlainLink → Type 0) → (producer_node x ≡ n → P (restreamed x (map (ended_in v ids) x.server.streams))) → ((producer_node x ≡ n → ⊥) → P x) → P (link_ended n v ids x)
told_by n v ids x P here there = elim (producer_node x == n) as (λ b. (producer_node x == n) ≡ b → P (if b then record x { server = ended_by v ids x.server } else x))
    [ true ↦ λ e. here (eqb-true (producer_node x) n e) | false ↦ λ e. there (eqb-false (producer_node x) n e) ] refl

-- its number and its ends are as they were, and a stream that is open was open
pub record Alike (x y : PlainLink) : Type 0 where
  pub dialed : y.consumer.dialed ≡ x.consumer.dialed
  pub desk : y.server.desk ≡ x.server.desk
  pub acked : y.consumer.acked ≡ x.consumer.acked
  pub taking : y.consumer.taking ≡ x.consumer.taking
  pub opens : NoNewStream x y

pub open_before : (v : ℕ) (ids : List ℕ) (streams : List PlainStream) (q id : ℕ) → HasOpen q id (map (ended_in v ids) streams) → HasOpen q id streams
open_before v ids [] q id has = absurd has
open_before v ids (stream ∷ more) q id has = ⊎_elim
    (λ o. let same = ended_same v ids stream in inl (sym same.vb ∙ o.0, sym same.id ∙ o.1, (not_ended v ids stream o.2).0))
    (λ j. inr (open_before v ids more q id j)) has

pub told_alike : (n v : ℕ) (ids : List ℕ) (x : PlainLink) → Alike x (link_ended n v ids x)
told_alike n v ids x = told_by n v ids x (Alike x)
    (λ e. record { dialed = refl; desk = refl; acked = refl; taking = refl; opens = open_before v ids x.server.streams })
    (λ ne. record { dialed = refl; desk = refl; acked = refl; taking = refl; opens = λ q id has. has })

differ_alike : (x x' y y' : PlainLink) → Alike x x' → Alike y y' → Differ x y → Differ x' y'
differ_alike x x' y y' a b d = record {
  number = λ e. d.number (ap (λ k. k.link) (sym a.dialed) ∙ e ∙ ap (λ k. k.link) b.dialed);
  follower = λ e f. d.follower (ap (λ k. k.node) (sym a.dialed) ∙ e ∙ ap (λ k. k.node) b.dialed) (ap (λ k. k.vb) (sym a.dialed) ∙ f ∙ ap (λ k. k.vb) b.dialed);
  stream = λ v id s t e. d.stream v id (a.opens v id s) (b.opens v id t) (ap (λ k. k.node) (sym a.desk) ∙ e ∙ ap (λ k. k.node) b.desk);
}

pub differ_told : (n v : ℕ) (ids : List ℕ) (links : List PlainLink) → LinksDiffer links → LinksDiffer (links_ended n v ids links)
differ_told n v ids [] d = tt
differ_told n v ids (x ∷ xs) d = (each xs d.0, differ_told n v ids xs d.1)
  where
    each : (ys : List PlainLink) → DifferFrom x ys → DifferFrom (link_ended n v ids x) (links_ended n v ids ys)
    each [] e = tt
    each (y ∷ ys) e = (differ_alike x (link_ended n v ids x) y (link_ended n v ids y) (told_alike n v ids x) (told_alike n v ids y) e.0, each ys e.1)

-- no link feeds the vBucket v of the node n
abbrev pub NoneFeeds : ℕ → ℕ → List PlainLink → Type 0
NoneFeeds n v links = (x : PlainLink) → IsLink x links → consumer_node x ≡ n → x.consumer.dialed.vb ≡ v → ⊥

-- the clients of a node after a change of role at its vBucket v, which ended the streams of these numbers; all others are as they were
abbrev pub conn_after : ℕ → ℕ → List ℕ → ℕ → Option PlainClient → Option PlainClient
conn_after n v ids m o = if m == n then option_map (client_ended v ids) o else o

-- the world with another vBucket v at the node n, where the streams of these numbers are ended at the producers of these links and of clients
pub record TurnedOf (w w' : PlainWorld) (n v : ℕ) (vb : Plain) (ids : List ℕ) (links : List PlainLink) : Type 0 where
  pub powers : SameArms w w'
  pub clients : (m c : ℕ) → client_in (w'.nodes m) c ≡ conn_after n v ids m (client_in (w.nodes m) c)
  pub here : vb_of w' n v ≡ Some vb
  pub there : (m q : ℕ) → (m ≡ n → q ≡ v → ⊥) → vb_of w' m q ≡ vb_of w m q
  pub shelves : (m q : ℕ) → shelf_of w' m q ≡ shelf_of w m q
  pub linked : w'.links ≡ links_ended n v ids links

-- with the links that were there
abbrev pub Turned : PlainWorld → PlainWorld → ℕ → ℕ → Plain → List ℕ → Type 0
Turned w w' n v vb ids = TurnedOf w w' n v vb ids w.links

-- what a change of role leaves of a link that it does not turn: its consumer's member, and its vBucket, unless it took its branch over before; and if its producer is at the vBucket, its open stream ends
pub record Beside (n v : ℕ) (ids : List ℕ) (vb vb' : Plain) (c c' : Cluster) (x : PlainLink) : Type 0 where
  pub member : (consumer_node x ≡ n → x.consumer.dialed.vb ≡ v → ⊥) → c'.nodes (consumer_seat x) ≡ c.nodes (consumer_seat x)
  pub own : consumer_node x ≡ n → x.consumer.dialed.vb ≡ v → (is_follower vb.role ≡ false) × (is_follower vb'.role ≡ false)
  pub listed : (id : ℕ) → HasOpen v id x.server.streams → producer_node x ≡ n → list_any (λ i. i == id) ids ≡ true

-- one of the links that are there then is between the ends of an old one: it agrees, or it is that one
pub record Remade (w w' : PlainWorld) (r' : Chronicle) (n v : ℕ) (ids : List ℕ) (vb vb' : Plain) (c c' : Cluster) (x : PlainLink) : Type 0 where
  pub from : PlainLink
  pub is_link : IsLink from w.links
  pub same : SameEnds from x
  pub less : NoNewStream from x
  pub goes : LinkAgrees w' r' c' (link_ended n v ids x) [] [] ⊎ ((x ≡ from) × Beside n v ids vb vb' c c' from)

-- a vBucket is another one, and streams of it are ended: what agreed before agrees
module _ (w w' : PlainWorld) (r r' : Chronicle) (c c' : Cluster) (n v : ℕ) (ids : List ℕ) (links : List PlainLink) (vb vb' : Plain) (a : AgreesIn idle w r c) (known : vb_of w n v ≡ Some vb)
    (became : TurnedOf w w' n v vb' ids links) (differ : LinksDiffer links)
    (members : (j : ℕ) → (j ≡ seat n v → ⊥) → FedMember (c.nodes j) (c'.nodes j)) (absent : (m q : ℕ) → (m ≡ n → q ≡ v → ⊥) → vb_of w m q ≡ None → c'.nodes (seat m q) ≡ c.nodes (seat m q))
    (dials : (k : ℕ) → r'.dial_of k ≡ r.dial_of k) (streams : (k q : ℕ) → r'.stream_of (StreamName.Link k) q ≡ r.stream_of (StreamName.Link k) q) (states : (k : ℕ) → r'.stated_of k ≡ r.stated_of k) (points : (k : ℕ) → r'.point_of k ≡ r.point_of k)
    (turned : (x : PlainLink) → IsLink x links → Remade w w' r' n v ids vb vb' c c' x)
    (all : (d : ℕ) (client : PlainClient) → client_in (w.nodes n) d ≡ Some client → StreamsEnded v client (client_ended v ids client)) where
  -- an open stream at another vBucket goes on
  goes_on : (x : PlainLink) (id : ℕ) (g : Granted) (feed : Feed) (h : Handing) → (producer_node x ≡ n → x.consumer.dialed.vb ≡ v → ⊥) → Open id g (vb_of w (producer_node x) x.consumer.dialed.vb) (c.nodes (producer_seat x)) feed h
      → Open id g (vb_of w' (producer_node x) x.consumer.dialed.vb) (c'.nodes (producer_seat x)) feed h
  goes_on x id g feed h other o =
      let far = members (producer_seat x) (seats_apart (producer_node x) x.consumer.dialed.vb n v other) in
      record {
        producer = o.producer;
        producer_is = became.there (producer_node x) x.consumer.dialed.vb other ∙ o.producer_is;
        active = feeder_moved h o.producer.role o.producer.role (c.nodes (producer_seat x)) (c'.nodes (producer_seat x)) feed.given refl (λ dead. far.position) o.active;
        leads = far.br ∙ o.leads;
        reached = λ none. (let x = o.reached none in let on = as_far far.position in omega (arith, x, on));
        opened = o.opened;
      }

  yet_open : (x : PlainLink) (id : ℕ) → (producer_node x ≡ n → x.consumer.dialed.vb ≡ v → ⊥) → OpenYet id (vb_of w (producer_node x) x.consumer.dialed.vb) → OpenYet id (vb_of w' (producer_node x) x.consumer.dialed.vb)
  yet_open x id other o = record { producer = o.producer; producer_is = became.there (producer_node x) x.consumer.dialed.vb other ∙ o.producer_is; dead = o.dead; opened = o.opened }

  kept_map : (over : Bool) (f : PlainStream → PlainStream) (streams : List PlainStream) (stream : PlainStream) → streams ≡ kept_stream over stream → map f streams ≡ kept_stream over (f stream)
  kept_map true f streams stream e = ap (map f) e
  kept_map false f streams stream e = ap (map f) e

  -- the two ends of a link stand as they did
  module _ (x : PlainLink) (beside : Beside n v ids vb vb' c c' x) where
    abbrev pv : Option Plain
    pv = vb_of w (producer_node x) x.consumer.dialed.vb

    abbrev pv' : Option Plain
    pv' = vb_of w' (producer_node x) x.consumer.dialed.vb

    abbrev ends : PlainStream → PlainStream
    ends = ended_in v ids

    -- one that is not ended here is at another vBucket
    elsewhere : (stream : PlainStream) → HasOpen stream.vb stream.id x.server.streams → stream.vb ≡ x.consumer.dialed.vb → (ends stream).ended ≡ false → producer_node x ≡ n → x.consumer.dialed.vb ≡ v → ⊥
    elsewhere stream has own e s t = (not_ended v ids stream e).1 (own ∙ t) (beside.listed stream.id (subst (λ q. HasOpen q stream.id x.server.streams) (own ∙ t) has) s)

    -- an heir's, at the node
    heir_here : {g : Option Granted} {asked said : List Frame} → Heir pv g x.server x.consumer asked said → Heir pv' g (restreamed x (map ends x.server.streams)).server x.consumer asked said
    heir_here y =
        let same = ended_same v ids y.stream in
        heir_again y (map ends x.server.streams) (ends y.stream) same (kept_map y.granted_is.over ends x.server.streams y.stream y.stream_is) (λ e left.
        let going = (not_ended v ids y.stream e).0 in
        subst (λ id. OpenYet id pv') (sym same.id)
        (yet_open x y.stream.id (elsewhere y.stream (left_open y.granted_is.over y.stream x.server.streams y.stream_is left going) y.vb_is e) (y.opens going left)))

    -- at the node
    stand_here : {fv : Wants} {kn : Member} {g : Option Granted} {said_last : Option Role} {point : Option ℕ} {asked said : List Frame} → EndsStand fv kn pv (c.nodes (producer_seat x)) g said_last point x.server x.consumer asked said
        → EndsStand fv kn pv' (c'.nodes (producer_seat x)) g said_last point (restreamed x (map ends x.server.streams)).server x.consumer asked said
    stand_here (EndsStand.IsAsking ask none y) = EndsStand.IsAsking ask none (record { no_stream = ap (map ends) y.no_stream; fewer = y.fewer; asking = y.asking })
    stand_here (EndsStand.IsRefusedYet none y) = EndsStand.IsRefusedYet none (record { no_stream = ap (map ends) y.no_stream; fewer = y.fewer; refusal = y.refusal })
    stand_here (EndsStand.IsStreaming y stated) =
        let same = ended_same v ids y.stream in
        stands_again y (map ends x.server.streams) (ends y.stream) same (kept_map y.granted_is.over ends x.server.streams y.stream y.stream_is) (λ e.
        let going = (not_ended v ids y.stream e).0 in
        subst (λ id. Open id y.granted_is pv' (c'.nodes (producer_seat x)) y.feed y.handing) (sym same.id)
        (goes_on x y.stream.id y.granted_is y.feed y.handing (elsewhere y.stream (kept_open y.granted_is.over y.stream x.server.streams y.stream_is y.streams.over_ended going) y.streams.vb_is e) (y.streams.opens going))) stated
    stand_here (EndsStand.IsHeir y stated) = EndsStand.IsHeir (heir_here y) stated

    -- at another node
    heir_there : {g : Option Granted} {asked said : List Frame} → (producer_node x ≡ n → ⊥) → Heir pv g x.server x.consumer asked said → Heir pv' g x.server x.consumer asked said
    heir_there away y = heir_again y x.server.streams y.stream stream_same y.stream_is (λ e left. yet_open x y.stream.id (λ s vs. away s) (y.opens e left))

    stand_there : {fv : Wants} {kn : Member} {g : Option Granted} {said_last : Option Role} {point : Option ℕ} {asked said : List Frame} → (producer_node x ≡ n → ⊥) → EndsStand fv kn pv (c.nodes (producer_seat x)) g said_last point x.server x.consumer asked said → EndsStand fv kn pv' (c'.nodes (producer_seat x)) g said_last point x.server x.consumer asked said
    stand_there away (EndsStand.IsAsking ask none y) = EndsStand.IsAsking ask none y
    stand_there away (EndsStand.IsRefusedYet none y) = EndsStand.IsRefusedYet none y
    stand_there away (EndsStand.IsStreaming y stated) = stands_again y x.server.streams y.stream stream_same y.stream_is (λ e. goes_on x y.stream.id y.granted_is y.feed y.handing (λ s vs. away s) (y.streams.opens e)) stated
    stand_there away (EndsStand.IsHeir y stated) = EndsStand.IsHeir (heir_there away y) stated

  talk_told : (x : PlainLink) → Beside n v ids vb vb' c c' x → (fv : Plain) (kn : Member) (g : Option Granted) (said_last : Option Role) (point : Option ℕ)
      → Talk fv kn (vb_of w (producer_node x) x.consumer.dialed.vb) (c.nodes (producer_seat x)) g said_last point x [] []
      → Talk fv kn (vb_of w' (producer_node x) x.consumer.dialed.vb) (c'.nodes (producer_seat x)) g said_last point (link_ended n v ids x) [] []
  talk_told x beside fv kn g said_last point t = told_by n v ids x (λ y. Talk fv kn (vb_of w' (producer_node x) x.consumer.dialed.vb) (c'.nodes (producer_seat x)) g said_last point y [] [])
      (λ at. record { asked = t.asked; said = t.said; stands = stand_here x beside t.stands; ups = t.ups; downs = t.downs })
      (λ away. record { asked = t.asked; said = t.said; stands = stand_there x beside away t.stands; ups = t.ups; downs = t.downs })

  -- an heir's stands so with whatever vBucket and member it has
  talk_own : (x : PlainLink) → Beside n v ids vb vb' c c' x → (fv fv' : Plain) (kn kn' : Member) (g : Option Granted) (said_last : Option Role) (point : Option ℕ) → is_follower fv.role ≡ false → FollowsBy x.consumer.taking.last fv.role
      → Talk fv kn (vb_of w (producer_node x) x.consumer.dialed.vb) (c.nodes (producer_seat x)) g said_last point x [] []
      → Talk fv' kn' (vb_of w' (producer_node x) x.consumer.dialed.vb) (c'.nodes (producer_seat x)) g said_last point (link_ended n v ids x) [] []
  talk_own x beside fv fv' kn kn' g said_last point feeds f t =
      let owns = owns_alone fv.role feeds f t.stands in
      told_by n v ids x (λ y. Talk fv' kn' (vb_of w' (producer_node x) x.consumer.dialed.vb) (c'.nodes (producer_seat x)) g said_last point y [] [])
      (λ at. record { asked = t.asked; said = t.said; stands = EndsStand.IsHeir (heir_here x beside owns.0) owns.1; ups = t.ups; downs = t.downs })
      (λ away. record { asked = t.asked; said = t.said; stands = EndsStand.IsHeir (heir_there x beside away owns.0) owns.1; ups = t.ups; downs = t.downs })

  module _ (x : PlainLink) (l : LinkAgrees w r c x [] []) (beside : Beside n v ids vb vb' c c' x) where
    -- in terms of the link as it is then
    agrees_at : (y : PlainLink) → Alike x y → {fv : Plain} → vb_of w' (consumer_node x) x.consumer.dialed.vb ≡ Some fv → FollowsBy x.consumer.taking.last fv.role
        → Talk fv (c'.nodes (consumer_seat x)) (vb_of w' (producer_node x) x.consumer.dialed.vb) (c'.nodes (producer_seat x)) (r'.stream_of (StreamName.Link (link_number x)) x.consumer.dialed.vb) (r'.stated_of (link_number x)) (r'.point_of (link_number x)) y [] [] → LinkAgrees w' r' c' y [] []
    agrees_at y same {fv} is follows talk =
        let acks : AckedIs (r'.stream_of (StreamName.Link (link_number x)) x.consumer.dialed.vb) x.consumer.acked = subst (λ o. AckedIs o x.consumer.acked) (sym (streams (link_number x) x.consumer.dialed.vb)) l.acks in
        let dial : DialAgrees (r'.dial_of (link_number x)) x.server.desk x.consumer.dialed = subst (λ o. DialAgrees o x.server.desk x.consumer.dialed) (sym (dials (link_number x))) l.dial in
        record {
          follower = fv;
          follower_is = ap (λ d. vb_of w' d.node d.vb) same.dialed ∙ is;
          follows = subst (λ (t : TakeOver). FollowsBy t.last fv.role) (sym same.taking) follows;
          acks = subst (λ d. AckedIs (r'.stream_of (StreamName.Link d.link) d.vb) y.consumer.acked) (sym same.dialed) (subst (λ a. AckedIs (r'.stream_of (StreamName.Link (link_number x)) x.consumer.dialed.vb) a) (sym same.acked) acks);
          dial = subst (λ d. DialAgrees (r'.dial_of d.link) y.server.desk d) (sym same.dialed) (subst (λ d. DialAgrees (r'.dial_of (link_number x)) d x.consumer.dialed) (sym same.desk) dial);
          talk = subst (λ d. Talk fv (c'.nodes (seat d.node d.vb)) (vb_of w' y.server.desk.node d.vb) (c'.nodes (seat y.server.desk.node d.vb)) (r'.stream_of (StreamName.Link d.link) d.vb) (r'.stated_of d.link) (r'.point_of d.link) y [] []) (sym same.dialed)
              (subst (λ k. Talk fv (c'.nodes (consumer_seat x)) (vb_of w' k.node x.consumer.dialed.vb) (c'.nodes (seat k.node x.consumer.dialed.vb)) (r'.stream_of (StreamName.Link (link_number x)) x.consumer.dialed.vb) (r'.stated_of (link_number x)) (r'.point_of (link_number x)) y [] []) (sym same.desk) talk);
        }

    abbrev k : ℕ
    k = link_number x

    abbrev g : Option Granted
    g = r.stream_of (StreamName.Link k) x.consumer.dialed.vb

    -- it feeds another vBucket
    beside_other : (consumer_node x ≡ n → x.consumer.dialed.vb ≡ v → ⊥) → LinkAgrees w' r' c' (link_ended n v ids x) [] []
    beside_other apart =
        agrees_at (link_ended n v ids x) (told_alike n v ids x) (became.there (consumer_node x) x.consumer.dialed.vb apart ∙ l.follower_is) l.follows
        (talk_same (beside.member apart) refl refl (streams k x.consumer.dialed.vb) (states k) (points k) (talk_told x beside l.follower (c.nodes (consumer_seat x)) g (r.stated_of k) (r.point_of k) l.talk))

    -- or this one, which took its branch over
    beside_own : consumer_node x ≡ n → x.consumer.dialed.vb ≡ v → LinkAgrees w' r' c' (link_ended n v ids x) [] []
    beside_own s t =
        let one : Some l.follower ≡ Some vb = sym l.follower_is ∙ ap (λ m. vb_of w m x.consumer.dialed.vb) s ∙ ap (vb_of w n) t ∙ known in let same : l.follower ≡ vb = cc in
        let feeds : is_follower l.follower.role ≡ false = ap (λ (p : Plain). is_follower p.role) same ∙ (beside.own s t).0 in
        let heir = (owns_alone l.follower.role feeds l.follows l.talk.stands).0 in
        agrees_at (link_ended n v ids x) (told_alike n v ids x) (ap (λ m. vb_of w' m x.consumer.dialed.vb) s ∙ ap (vb_of w' n) t ∙ became.here) (subst (λ (o : TakeOver). FollowsBy o.last vb'.role) (sym heir.owns) (beside.own s t).1)
        (talk_same refl refl refl (streams k x.consumer.dialed.vb) (states k) (points k) (talk_own x beside l.follower vb' (c.nodes (consumer_seat x)) (c'.nodes (consumer_seat x)) g (r.stated_of k) (r.point_of k) feeds l.follows l.talk))

  link_told : (x : PlainLink) → IsLink x links → LinkAgrees w' r' c' (link_ended n v ids x) [] []
  link_told x i =
      let t = turned x i in
      ⊎_elim (λ agrees. agrees)
      (λ b. subst (λ y. LinkAgrees w' r' c' (link_ended n v ids y) [] []) (sym b.0)
      (⊎_elim (λ s. beside_own t.from (a.links t.from t.is_link) b.1 s.0 s.1) (λ apart. beside_other t.from (a.links t.from t.is_link) b.1 apart) (places n v (consumer_node t.from) t.from.consumer.dialed.vb)))
      t.goes

  -- a link after it has the ends that it had
  turned_ends : (y : PlainLink) → IsLink y w'.links → EndsUp w' y
  turned_ends y i =
      let (x, j, is) = told_is_link n v ids links y (subst (IsLink y) became.linked i) in let like = told_alike n v ids x in let t = turned x j in
      subst (EndsUp w') (sym is) (ends_off w w' t.from (link_ended n v ids x) (offs_arms w w' became.powers) (record { dialed = like.dialed ∙ t.same.dialed; desk = like.desk ∙ t.same.desk }) (a.ends t.from t.is_link))

  -- what rests beside it
  pub rests_turned : ((m : ℕ) → node_known r' m ≡ node_known r m) → (r'.disk_at n v).there ≡ (r.disk_at n v).there → ((m q : ℕ) → (m ≡ n → q ≡ v → ⊥) → vb_row r' m q ≡ vb_row r m q) → ((j : ℕ) → (j ≡ seat n v → ⊥) → c'.disks j ≡ c.disks j) → RestsIn w' r' c'
  rests_turned arms same rows disks = rests_arms w w' r r' c c' a.rests became.powers arms
      (λ m q none. ⊎_elim (λ s. let z : Some vb' ≡ None = sym (ap (λ k. vb_of w' k q) s.0 ∙ ap (vb_of w' n) s.1 ∙ became.here) ∙ none in cc)
      (λ o. let before = sym (became.there m q o) ∙ none in record { vb = before; shelf = became.shelves m q; row = rows m q o; member = absent m q o before; disk = disks (seat m q) (seats_apart m q n v o) }) (places n v m q))
      (λ m q down. ⊎_elim (λ s. let z : Some vb ≡ None = sym (ap (λ k. vb_of w k q) s.0 ∙ ap (vb_of w n) s.1 ∙ known) ∙ (a.downs m q).vb_none down in cc)
      (λ o. (became.there m q o ∙ (a.downs m q).vb_none down, became.shelves m q ∙ (a.downs m q).shelf_none down)) (places n v m q))
      (λ m q e. ⊎_elim (λ s. ap (λ k. (r.disk_at k q).there) s.0 ∙ ap (λ k. (r.disk_at n k).there) s.1 ∙ sym same ∙ sym (ap (λ k. (r'.disk_at k q).there) s.0 ∙ ap (λ k. (r'.disk_at n k).there) s.1) ∙ e)
      (λ o. ap (λ (t : VbRow). t.disk.there) (sym (rows m q o)) ∙ e) (places n v m q))
      turned_ends

  -- a link's open stream was its own
  turned_feeds : (l m q id : ℕ) → HasFed w' (StreamName.Link l) m q id → HasFed w (StreamName.Link l) m q id
  turned_feeds l m q id (y, is, of) =
      let at = found_is_link l w'.links y is in let (x, j, same) = told_is_link n v ids links y (subst (IsLink y) became.linked at.0) in
      let like = told_alike n v ids x in let t = turned x j in
      link_feeds w a.differ l m q id t.from t.is_link (ap (λ d. d.link) (sym t.same.dialed) ∙ ap (λ d. d.link) (sym like.dialed) ∙ ap link_number (sym same) ∙ at.1)
      (ap (λ d. d.node) (sym t.same.desk) ∙ ap (λ d. d.node) (sym like.desk) ∙ ap producer_node (sym same) ∙ of.producer)
      (t.less q id (like.opens q id (subst (λ (k : PlainLink). HasOpen q id k.server.streams) same of.stream)))

  -- clients' streams of the vBucket are ended
  ended_here : (d : ℕ) (client' : PlainClient) → client_in (w'.nodes n) d ≡ Some client' → (client : PlainClient) × (client_in (w.nodes n) d ≡ Some client) × StreamsEnded v client client'
  ended_here d client' is = by (client_in (w.nodes n) d) refl (sym (became.clients n d ∙ ap (λ b. if b then option_map (client_ended v ids) (client_in (w.nodes n) d) else client_in (w.nodes n) d) (eq-eqb n n refl)) ∙ is)
    where
      by : (o : Option PlainClient) → client_in (w.nodes n) d ≡ o → option_map (client_ended v ids) o ≡ Some client' → (client : PlainClient) × (client_in (w.nodes n) d ≡ Some client) × StreamsEnded v client client'
      by None e z = cc
      by (Some client) e z = let same : client_ended v ids client ≡ client' = cc in (client, e, subst (StreamsEnded v client) same (all d client e))

  turned_told : ((m d : ℕ) → r'.clients_at m d ≡ with_clients_of r.clients_at n (past_turn v (r.held n v)) m d) → ((m q : ℕ) → AgreesAt r' m q (c'.nodes (seat m q)) (vb_of w' m q)) → ((u : ℕ) → IsTold r.tree u → hist r'.tree u ≡ hist r.tree u)
      → RoleTold w w' r r' n v
  turned_told clients vbs same = record {
    here = ended_here;
    there = λ m d ne. became.clients m d ∙ ap (λ b. if b then option_map (client_ended v ids) (client_in (w.nodes m) d) else client_in (w.nodes m) d) (ne_eqb m n ne);
    known = clients;
    goes = λ m q o d id has.
        let member = members (seat m q) (seats_apart m q n v o) in
        goes_agreed_at w w' r r' m q id (c.nodes (seat m q)) (c'.nodes (seat m q)) (vb_of w m q) refl (became.there m q o) (a.vbs m q) (subst (AgreesAt r' m q (c'.nodes (seat m q))) (became.there m q o) (vbs m q))
        member.br (λ x i. subst (IsIn x) (sym member.held) i) (λ x. same (c.nodes (seat m q)).br x.is_told);
  }

  -- what is left of the agreement is the vBuckets, the branches and what rests
  pub agrees_turned : SoundCluster top c' → ((m q : ℕ) → AgreesAt r' m q (c'.nodes (seat m q)) (vb_of w' m q)) → ((m q : ℕ) → DiskIsIf (r'.disk_at m q) (c'.disks (seat m q)) (shelf_of w' m q) (vb_of w' m q)) → BranchesAgree c'.tree r'.tree w'.uuids
      → RestsIn w' r' c' → ((m d : ℕ) → r'.clients_at m d ≡ with_clients_of r.clients_at n (past_turn v (r.held n v)) m d) → ((u : ℕ) → IsTold r.tree u → hist r'.tree u ≡ hist r.tree u) → Later r r' → Fewer (Some vb) (Some vb') → AgreesIn idle w' r' c'
  agrees_turned sound vbs disks branches rests clients same last fewer = record {
    sound = sound;
    vbs = vbs;
    disks = disks;
    branches = branches;
    rests = rests;
    links = λ y i. let (x, j, is) = told_is_link n v ids links y (subst (IsLink y) became.linked i) in subst (λ k. LinkAgrees w' r' c' k [] []) (sym is) (link_told x j);
    differ = subst LinksDiffer (sym became.linked) (differ_told n v ids links differ);
    clients = clients_turned w w' r r' n v a.clients (turned_told clients vbs same) (all_there idle w r c a) turned_feeds last (fewer_at w w' n v became.there (fewer_now w w' n v vb vb' known became.here fewer));
  }

-- an old link is there as it was
pub as_before : {w w' : PlainWorld} {r' : Chronicle} {n v : ℕ} {ids : List ℕ} {vb vb' : Plain} {c c' : Cluster} (x : PlainLink) → IsLink x w.links → Beside n v ids vb vb' c c' x → Remade w w' r' n v ids vb vb' c c' x
as_before x i beside = record { from = x; is_link = i; same = record { dialed = refl; desk = refl }; less = λ v id has. has; goes = inr (refl, beside) }

-- so it is of a vBucket that no link feeds, all of whose streams are ended
module _ (w w' : PlainWorld) (r r' : Chronicle) (c c' : Cluster) (n v : ℕ) (vb vb' : Plain) (a : AgreesIn idle w r c) (known : vb_of w n v ≡ Some vb) (free : NoneFeeds n v w.links)
    (became : Turned w w' n v vb' (stream_ids vb.streams))
    (members : (j : ℕ) → (j ≡ seat n v → ⊥) → c'.nodes j ≡ c.nodes j)
    (dials : (k : ℕ) → r'.dial_of k ≡ r.dial_of k) (streams : (k q : ℕ) → r'.stream_of (StreamName.Link k) q ≡ r.stream_of (StreamName.Link k) q) (states : (k : ℕ) → r'.stated_of k ≡ r.stated_of k) (points : (k : ℕ) → r'.point_of k ≡ r.point_of k) where
  -- an open stream of the vBucket is one of those that end
  listed : (x : PlainLink) → IsLink x w.links → (id : ℕ) → HasOpen v id x.server.streams → producer_node x ≡ n → list_any (λ i. i == id) (stream_ids vb.streams) ≡ true
  listed x i id has at =
      let (p, there, feeds, s, opened, own) = stream_opened w r c x [] [] (a.links x i) v id has in
      let is : Some p ≡ Some vb = sym there ∙ ap (λ k. vb_of w k x.consumer.dialed.vb) at ∙ ap (vb_of w n) own ∙ known in let same : p ≡ vb = cc in
      id_listed id vb.streams s (subst (λ (k : Plain). stream_at id k.streams ≡ Some s) same opened)

  all_beside : (x : PlainLink) → IsLink x w.links → Remade w w' r' n v (stream_ids vb.streams) vb vb' c c' x
  all_beside x i = as_before x i (record { member = λ apart. members (consumer_seat x) (seats_apart (consumer_node x) x.consumer.dialed.vb n v apart); own = λ s t. absurd (free x i s t); listed = listed x i })

  as_fed : (j : ℕ) → (j ≡ seat n v → ⊥) → FedMember (c.nodes j) (c'.nodes j)
  as_fed j ne = subst (FedMember (c.nodes j)) (sym (members j ne)) (fed_same (c.nodes j))

  as_absent : (m q : ℕ) → (m ≡ n → q ≡ v → ⊥) → vb_of w m q ≡ None → c'.nodes (seat m q) ≡ c.nodes (seat m q)
  as_absent m q other none = members (seat m q) (seats_apart m q n v other)

  all_clients : (d : ℕ) (client : PlainClient) → client_in (w.nodes n) d ≡ Some client → StreamsEnded v client (client_ended v (stream_ids vb.streams) client)
  all_clients d client is = all_ended w r n v d vb client known (a.clients.each n d client is)

  pub turned_rests : ((m : ℕ) → node_known r' m ≡ node_known r m) → (r'.disk_at n v).there ≡ (r.disk_at n v).there → ((m q : ℕ) → (m ≡ n → q ≡ v → ⊥) → vb_row r' m q ≡ vb_row r m q) → ((j : ℕ) → (j ≡ seat n v → ⊥) → c'.disks j ≡ c.disks j) → RestsIn w' r' c'
  turned_rests = rests_turned w w' r r' c c' n v (stream_ids vb.streams) w.links vb vb' a known became a.differ as_fed as_absent dials streams states points all_beside all_clients

  pub turned_agrees : SoundCluster top c' → ((m q : ℕ) → AgreesAt r' m q (c'.nodes (seat m q)) (vb_of w' m q)) → ((m q : ℕ) → DiskIsIf (r'.disk_at m q) (c'.disks (seat m q)) (shelf_of w' m q) (vb_of w' m q)) → BranchesAgree c'.tree r'.tree w'.uuids
      → RestsIn w' r' c' → ((m d : ℕ) → r'.clients_at m d ≡ with_clients_of r.clients_at n (past_turn v (r.held n v)) m d) → ((u : ℕ) → IsTold r.tree u → hist r'.tree u ≡ hist r.tree u) → Later r r' → Fewer (Some vb) (Some vb') → AgreesIn idle w' r' c'
  turned_agrees = agrees_turned w w' r r' c c' n v (stream_ids vb.streams) w.links vb vb' a known became a.differ as_fed as_absent dials streams states points all_beside all_clients

-- a family with what it has at k is the same
pub put_itself : {A : Type 0} (xs : ℕ → A) (k j : ℕ) → put xs k (xs k) j ≡ xs j
put_itself xs k j = elim (j == k) as (λ b. (j == k) ≡ b → (if b then xs k else xs j) ≡ xs j) [ true ↦ λ e. ap xs (sym (eqb-true j k e)) | false ↦ λ e. refl ] refl

-- what was written down of it and of the others, before its new role is
pub turned_disks : {links : List PlainLink} (w w' : PlainWorld) (r r' : Chronicle) (c c' : Cluster) (n v : ℕ) (vb vb' : Plain) (over : List ℕ) → AgreesIn idle w r c → vb_of w n v ≡ Some vb → TurnedOf w w' n v vb' over links
    → ((m q : ℕ) → r'.disk_at m q ≡ r.disk_at m q) → ((j : ℕ) → c'.disks j ≡ c.disks j) → parts_of vb' ≡ record (parts_of vb) { spans = with_seal vb.spans }
    → (m q : ℕ) → DiskIsIf (r'.disk_at m q) (c'.disks (seat m q)) (shelf_of w' m q) (vb_of w' m q)
turned_disks w w' r r' c c' n v vb vb' over a known became told disks parts = all_vbs w w' n v vb' (λ m q o. DiskIsIf (r'.disk_at m q) (c'.disks (seat m q)) (shelf_of w' m q) o) became.here became.there
    (disk_same (Some vb') (Some vb') (told n v) (disks (seat n v)) (became.shelves n v) refl
    (sealed_disk (r.disk_at n v) (c.disks (seat n v)) (shelf_of w n v) vb vb' parts (subst (DiskIsIf (r.disk_at n v) (c.disks (seat n v)) (shelf_of w n v)) known (a.disks n v))))
    (λ m q o. disk_same (vb_of w m q) (vb_of w m q) (told m q) (disks (seat m q)) (became.shelves m q) (same_parts (vb_of w m q)) (a.disks m q))
