-- a link that is cut, and a vBucket's own link, which is over once the vBucket has another role
use Rattle.std.specs.Prelude.{◌≡◌, ◌∷◌, ◌++◌, ◌==◌, ◌&&◌, if◌then◌else◌}
use Rattle.transcript_law.proofs.Words.{ℕ, Bool, true, false, List, map, refl, ap, sym, ◌∙◌, subst, inl, inr, ⊎_elim, Option, Some, None, option_map, eq-eqb, eqb-true, ne_eqb}
use Rattle.transcript_law.proofs.Words.{and_parts, Event, Cluster, Move, happens, Plain, is_active, is_follower, with_vb_at, StaysSound, row_at, row_out, ended_in, PlainStream, PlainLink, link_number, producer_node}
use Rattle.transcript_law.proofs.Words.{consumer_node, feeds, PlainNode, PlainWorld, with_node_at, with_links, cut_outcome, unlinked, own_link, link_ended, links_ended, Chronicle, after_end, after_lines}
use Rattle.transcript_law.proofs.{Words.{LawfulFrom, []}, invariant.Seats.{seat}, invariant.Agreement.{vb_of, VbAgrees, AgreesAt, IsLink, LinksDiffer, consumer_seat, idle, AgreesIn, Agrees, GoesOn}, invariant.Carrying.{Changed}}
use Rattle.transcript_law.proofs.{invariant.Carrying.{StreamsChanged}, invariant.Carried.{fed_same, vb_carried, stream_apart, kept_streams, stream_end_lines}, invariant.LinkRows.{found_is_link, differ_in, links_apart, out_links}}
use Rattle.transcript_law.proofs.{invariant.Agreement.{shelf_of}, disks.Disks.{disk_same, parts_of}, Words.{vb_in}}
use Rattle.transcript_law.proofs.{invariant.OneLink.{carries_over, carries_same}, links.Cutting.{IsClosable, closable, unlinking}, verbs.NodeLines.{as_told, at_node, changed_agrees}, links.Turning.{NoneFeeds, not_ended, told_by}}
use Rattle.transcript_law.proofs.{invariant.{ClientsKept.{link_none}, LinkFeeds.{link_feeds}}, links.Turning.{told_alike, differ_told}}
use Rattle.{node_world.specs.World.{cut_step}, transcript_law.specs.Feeding.{HasOpen, IsOfClient}, vb_events.specs.declared.event.EndReason.TheVariants.{Cut}, vb_events.specs.declared.event.Event.TheVariants.{Ended}}
use Rattle.transcript_law.proofs.invariant.Owing.{later_same}

-- a link is cut

-- a link of the list is found by its number
pub row_found : (links : List PlainLink) (link : PlainLink) → LinksDiffer links → IsLink link links → row_at link_number (link_number link) links ≡ Some link
row_found [] link d i = absurd i
row_found (x ∷ xs) link d i = ⊎_elim
    (λ e. ap (λ b. if b then Some x else row_at link_number (link_number link) xs) (eq-eqb (link_number x) (link_number link) (ap link_number (sym e))) ∙ ap Some (sym e))
    (λ j. ap (λ b. if b then Some x else row_at link_number (link_number link) xs) (ne_eqb (link_number x) (link_number link) (differ_in x link xs d.0 j).number) ∙ row_found xs link d.1 j)
    i

module _ (stays : StaysSound) (w : PlainWorld) (r : Chronicle) (link : PlainLink) (c : Cluster) (a : AgreesIn idle w r c) (i : IsLink link w.links) where
  pub cut_agrees : AgreesIn idle (unlinked link w) (after_end r (link_number link)) (happens c (Move.Cut (consumer_seat link)))
  cut_agrees = carries_over idle idle w (unlinked link w) r (after_end r (link_number link)) c (link_number link) link a (row_found w.links link a.differ i)
      (unlinking stays w link (closable idle w r c link [] [] a (a.links link i))) (stream_end_lines r (link_number link)) (λ k ne. refl)

-- `cut L`
pub cut_goes : StaysSound → (w : PlainWorld) (r : Chronicle) (l : ℕ) → Agrees w r → GoesOn r as_told (cut_step w l)
cut_goes stays w r l a = by (row_at link_number l w.links) refl
  where
    by : (o : Option PlainLink) → row_at link_number l w.links ≡ o → GoesOn r as_told (cut_outcome w o)
    by None e = (tt, a)
    by (Some link) e = (((_, (a.1.links link (found_is_link l w.links link e).0).dialed), tt), (happens a.0 (Move.Cut (consumer_seat link)), cut_agrees stays w r link a.0 a.1 (found_is_link l w.links link e).0))

-- a vBucket's own link is cut before its role changes

pub own_found : (n v : ℕ) (links : List PlainLink) (link : PlainLink) → own_link n v links ≡ Some link → IsLink link links × (consumer_node link ≡ n) × (link.consumer.dialed.vb ≡ v)
own_found n v [] link e = cc
own_found n v (x ∷ xs) link e = by (λ q. own_found n v xs link q) (feeds n v x) refl e
  where
    by : (own_link n v xs ≡ Some link → IsLink link xs × (consumer_node link ≡ n) × (link.consumer.dialed.vb ≡ v)) → (b : Bool) → feeds n v x ≡ b → (if b then Some x else own_link n v xs) ≡ Some link → IsLink link (x ∷ xs) × (consumer_node link ≡ n) × (link.consumer.dialed.vb ≡ v)
    by more true t q =
        let same : x ≡ link = cc in let p = and_parts (x.consumer.dialed.node == n) (x.consumer.dialed.vb == v) t in
        (inl (sym same), subst (λ (y : PlainLink). consumer_node y ≡ n) same (eqb-true x.consumer.dialed.node n p.0), subst (λ (y : PlainLink). y.consumer.dialed.vb ≡ v) same (eqb-true x.consumer.dialed.vb v p.1))
    by more false t q = let p = more q in (inr p.0, p.1, p.2)

pub none_found : (n v : ℕ) (links : List PlainLink) → own_link n v links ≡ None → NoneFeeds n v links
none_found n v [] e x i = absurd i
none_found n v (y ∷ ys) e x i = by (λ q j s u. none_found n v ys q x j s u) (feeds n v y) refl e
  where
    both : consumer_node y ≡ n → y.consumer.dialed.vb ≡ v → feeds n v y ≡ true
    both s t = ap (λ b. b && (y.consumer.dialed.vb == v)) (eq-eqb y.consumer.dialed.node n s) ∙ eq-eqb y.consumer.dialed.vb v t

    by : (own_link n v ys ≡ None → IsLink x ys → consumer_node x ≡ n → x.consumer.dialed.vb ≡ v → ⊥) → (b : Bool) → feeds n v y ≡ b → (if b then Some y else own_link n v ys) ≡ None → consumer_node x ≡ n → x.consumer.dialed.vb ≡ v → ⊥
    by more true t q = cc
    by more false t q = λ s u. ⊎_elim
        (λ e. let z : true ≡ false = sym (both (ap consumer_node (sym e) ∙ s) (ap (λ (k : PlainLink). k.consumer.dialed.vb) (sym e) ∙ u)) ∙ t in cc)
        (λ j. more q j s u)
        i

-- the links without a vBucket's own one
abbrev pub links_left : Option PlainLink → List PlainLink → List PlainLink
links_left None links = links
links_left (Some link) links = row_out link_number (link_number link) links

-- the line of its end
abbrev pub cut_lines : Option PlainLink → List Event
cut_lines None = []
cut_lines (Some link) = Ended (link_number link) Cut ∷ []

-- what was cut off: its lines are lawful, all agrees without the link, and no link feeds the vBucket any more
pub record CutOff (r : Chronicle) (n v : ℕ) (w : PlainWorld) (links : List PlainLink) (lines : List Event) : Type 0 where
  pub lawful : (more : List Event) → LawfulFrom (after_lines r lines) more → LawfulFrom r (lines ++ more)
  pub told : (more : List Event) → after_lines r (lines ++ more) ≡ after_lines (after_lines r lines) more
  pub cluster : Cluster
  pub agrees : AgreesIn idle (with_links w links) (after_lines r lines) cluster
  pub free : NoneFeeds n v links

-- no other link feeds what a link fed
none_left : (links : List PlainLink) (link : PlainLink) → LinksDiffer links → IsLink link links → NoneFeeds (consumer_node link) link.consumer.dialed.vb (row_out link_number (link_number link) links)
none_left links link differ i x j e f =
    let p = out_links (link_number link) links link x differ (row_found links link differ i) j in
    (links_apart link x links differ i p.0 (λ q. p.1 (sym q))).follower (sym e) (sym f)

pub cut_off_goes : (w : PlainWorld) (r : Chronicle) (n v : ℕ) → Agrees w r → (o : Option PlainLink) → own_link n v w.links ≡ o → CutOff r n v w (links_left o w.links) (cut_lines o)
cut_off_goes w r n v a None e = record { lawful = λ more l. l; told = λ more. refl; cluster = a.0; agrees = a.1; free = none_found n v w.links e }
cut_off_goes w r n v a (Some link) e =
    let p = own_found n v w.links link e in let l : ℕ = link_number link in let rest : List PlainLink = row_out link_number l w.links in
    record {
      lawful = λ more x. ((_, (a.1.links link p.0).dialed), x);
      told = λ more. refl;
      cluster = happens a.0 (Move.Cut (consumer_seat link));
      agrees = carries_over idle idle w (with_links w rest) r (after_end r l) a.0 l link a.1 (row_found w.links link a.1.differ p.0) (inl (record { powers = λ m. refl; vbs = λ m q. refl; shelves = λ m q. refl; uuids = refl; linked = refl })) (stream_end_lines r l) (λ k ne. refl);
      free = subst (λ i. NoneFeeds i v rest) p.1 (subst (λ q. NoneFeeds (consumer_node link) q rest) p.2 (none_left w.links link a.1.differ p.0));
    }

-- a vBucket of which the streams alone changed, and none that a link or a client has

module _ (w w' : PlainWorld) (r : Chronicle) (c : Cluster) (n v id : ℕ) (pv pv' : Plain) (a : AgreesIn idle w r c) (known : vb_of w n v ≡ Some pv) (changed : StreamsChanged id pv pv') (became : Changed w w' n v pv' w.links) (shelf : shelf_of w' n v ≡ shelf_of w n v)
    (apart : (x : PlainLink) → IsLink x w.links → HasOpen v id x.server.streams → producer_node x ≡ n → ⊥) (alone : (d : ℕ) → IsOfClient w n d v id → ⊥) where
  here : VbAgrees r n v (c.nodes (seat n v)) pv'
  here = vb_carried r r n v (c.nodes (seat n v)) (c.nodes (seat n v)) (record { tree = refl; writer_of = λ u. refl; row = refl }) (fed_same (c.nodes (seat n v))) id pv pv'
      changed (subst (AgreesAt r n v (c.nodes (seat n v))) known (a.vbs n v))

  pub streams_agree : AgreesIn idle w' r c
  streams_agree = changed_agrees w w' r r c n v pv pv' a known became (kept_streams id pv pv' changed) refl (λ k. refl) (λ k q. refl) (λ k. refl) (λ k. refl)
      (λ x i k has s. changed.others k (λ e. apart x i (subst (λ j. HasOpen v j x.server.streams) e has) s)) here (λ m q other. a.vbs m q) (λ m q. refl) shelf
      (disk_same (Some pv) (Some pv') refl refl refl (ap parts_of changed.alone)) (λ m. refl) (λ m q other. refl)
      (λ m d. refl) (λ d k has. changed.others k (λ e. alone d (subst (IsOfClient w n d v) e has))) (later_same _ _ refl refl)

-- links that are told which streams ended, without one of them
out_told : (n v : ℕ) (ids : List ℕ) (k : ℕ) (links : List PlainLink) → row_out link_number k (links_ended n v ids links) ≡ links_ended n v ids (row_out link_number k links)
out_told n v ids k [] = refl
out_told n v ids k (x ∷ xs) =
    ap (λ d. if d.link == k then links_ended n v ids xs else link_ended n v ids x ∷ row_out link_number k (links_ended n v ids xs)) (told_alike n v ids x).dialed
    ∙ elim (link_number x == k) as (λ b. (if b then links_ended n v ids xs else link_ended n v ids x ∷ row_out link_number k (links_ended n v ids xs)) ≡ links_ended n v ids (if b then xs else x ∷ row_out link_number k xs))
    [ true ↦ refl | false ↦ ap (λ ys. link_ended n v ids x ∷ ys) (out_told n v ids k xs) ]

-- and a vBucket's own one among them
pub own_told : (n v : ℕ) (ids : List ℕ) (links : List PlainLink) → own_link n v (links_ended n v ids links) ≡ option_map (link_ended n v ids) (own_link n v links)
own_told n v ids [] = refl
own_told n v ids (x ∷ xs) =
    ap (λ d. if d.node == n && d.vb == v then Some (link_ended n v ids x) else own_link n v (links_ended n v ids xs)) (told_alike n v ids x).dialed
    ∙ elim (feeds n v x) as (λ b. (if b then Some (link_ended n v ids x) else own_link n v (links_ended n v ids xs)) ≡ option_map (link_ended n v ids) (if b then Some x else own_link n v xs)) [ true ↦ refl | false ↦ own_told n v ids xs ]

told_in : (n v : ℕ) (ids : List ℕ) (x : PlainLink) (links : List PlainLink) → IsLink x links → IsLink (link_ended n v ids x) (links_ended n v ids links)
told_in n v ids x [] i = absurd i
told_in n v ids x (y ∷ ys) i = ⊎_elim (λ e. inl (ap (link_ended n v ids) e)) (λ j. inr (told_in n v ids x ys j)) i

-- the own link of a vBucket that was given another role: it feeds that vBucket, and is taken out
module _ (stays : StaysSound) (w : PlainWorld) (r : Chronicle) (c : Cluster) (n v : ℕ) (ids : List ℕ) (node node' : PlainNode) (vb vb' : Plain) (vbs_are : (q : ℕ) → node'.vbs q ≡ with_vb_at node.vbs v vb' q) (shelves_are : (q : ℕ) → (q ≡ v → ⊥) → node'.shelves q ≡ node.shelves q)
    (link : PlainLink) (a : AgreesIn idle w r c) (at : w.nodes n ≡ Some node)
    (known : vb_of w n v ≡ Some vb) (is_own : own_link n v w.links ≡ Some link) (fewer : (m d q id : ℕ) → IsOfClient (with_node_at w n node') m d q id → IsOfClient w m d q id) where
  -- the world after the call, and its links when they were told
  abbrev called : PlainWorld
  called = with_node_at w n node'

  abbrev ended : PlainWorld
  ended = with_links called (links_ended n v ids w.links)

  abbrev link' : PlainLink
  link' = link_ended n v ids link

  own : IsLink link w.links × (consumer_node link ≡ n) × (link.consumer.dialed.vb ≡ v)
  own = own_found n v w.links link is_own

  pub same_number : link_number link' ≡ link_number link
  same_number = ap (λ d. d.link) (told_alike n v ids link).dialed

  others : (m q : ℕ) → (m ≡ n → q ≡ v → ⊥) → vb_of ended m q ≡ vb_of w m q
  others = at_node w n node' (λ m q o. (m ≡ n → q ≡ v → ⊥) → o ≡ vb_of w m q)
      (λ q other. vbs_are q ∙ ap (λ b. if b then Some vb' else node.vbs q) (ne_eqb q v (λ e. other refl e)) ∙ sym (ap (λ o. vb_in o q) at)) (λ m q ne other. refl)

  -- its stream is not one of its own vBucket
  no_own : (stream : PlainStream) → link.server.streams ≡ stream ∷ [] → stream.ended ≡ false → producer_node link ≡ n → ⊥
  no_own stream has going e =
      stream_apart w r c link [] [] (a.links link own.0) stream.vb stream.id (subst (HasOpen stream.vb stream.id) (sym has) (inl (refl, refl, going))) (e ∙ sym own.1)

  can : IsClosable ended link'
  can = told_by n v ids link (IsClosable ended)
      (λ e. ⊎_elim (λ none. inl (ap (map (ended_in v ids)) none))
      (λ one. inr (ended_in v ids one.0, ap (map (ended_in v ids)) one.1, λ going. absurd (no_own one.0 one.1 (not_ended v ids one.0 going).0 e))) was)
      (λ away. ⊎_elim (λ none. inl none)
      (λ one. inr (one.0, one.1, λ going. let (on, pv, is, sound) = one.2 going in (on, pv, others (producer_node link) link.consumer.dialed.vb (λ s t. away s) ∙ is, sound))) was)
    where
      was : IsClosable w link
      was = closable idle w r c link [] [] a (a.links link own.0)

  -- what agrees without the link, agrees once it is taken out
  module _ (r' : Chronicle) (c' : Cluster) (more : List ℕ) where
    abbrev without : PlainWorld
    without = record { nodes = called.nodes; uuids = w.uuids ++ more; links = links_ended n v ids (row_out link_number (link_number link) w.links) }

    abbrev over : PlainWorld
    over = record { nodes = (unlinked link' ended).nodes; uuids = (unlinked link' ended).uuids ++ more; links = (unlinked link' ended).links }

    rest_is : row_out link_number (link_number link') (links_ended n v ids w.links) ≡ without.links
    rest_is = ap (λ k. row_out link_number k (links_ended n v ids w.links)) same_number ∙ out_told n v ids (link_number link) w.links

    not_apart : (x : PlainLink) → IsLink x without.links → (id : ℕ) → HasOpen link'.consumer.dialed.vb id link'.server.streams → HasOpen link'.consumer.dialed.vb id x.server.streams → producer_node x ≡ producer_node link' → ⊥
    not_apart x i id opens has e =
        let differ : LinksDiffer (links_ended n v ids w.links) = differ_told n v ids w.links a.differ in
        let there : IsLink link' (links_ended n v ids w.links) = told_in n v ids link w.links own.0 in
        let p = out_links (link_number link') (links_ended n v ids w.links) link' x differ (row_found (links_ended n v ids w.links) link' differ there) (subst (IsLink x) (sym rest_is) i) in
        (links_apart link' x (links_ended n v ids w.links) differ there p.0 (λ q. p.1 (sym q))).stream link'.consumer.dialed.vb id opens has (sym e)

    -- nor does a client have it
    alone : (id : ℕ) → HasOpen link'.consumer.dialed.vb id link'.server.streams → (d : ℕ) → IsOfClient without (producer_node link') d link'.consumer.dialed.vb id → ⊥
    alone id opens d has =
        let m : ℕ = producer_node link' in let q : ℕ = link'.consumer.dialed.vb in let like = told_alike n v ids link in
        link_none w a.clients.apart (link_number link) m q id (link_feeds w a.differ (link_number link) m q id link own.0 refl (sym (ap (λ d. d.node) like.desk)) (like.opens q id opens)) d (fewer m d q id has)

    pub over_agrees : AgreesIn idle without r' c' → AgreesIn idle over r' c'
    over_agrees b = ⊎_elim
        (λ same. carries_same idle idle without over r' c' b (record { powers = same.powers; vbs = same.vbs; shelves = same.shelves; uuids = ap (λ us. us ++ more) same.uuids; linked = same.linked ∙ rest_is }) (λ k. refl))
        (λ closed.
        let (id, pv, pv', opens, is, changed, one, shelf) = closed in
        streams_agree without over r' c' (producer_node link') link'.consumer.dialed.vb id pv pv' b is changed
        (record { powers = one.powers; here = one.here; there = one.there; shelves = one.shelves; uuids = ap (λ us. us ++ more) one.uuids; linked = one.linked ∙ rest_is }) shelf (λ x i has e. not_apart x i id opens has e) (λ d has. alone id opens d has))
        (unlinking stays ended link' can)
