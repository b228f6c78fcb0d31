-- a step at one link carries the agreement
use Rattle.std.specs.Prelude.{◌≡◌, ◌⊎◌, if◌then◌else◌}
use Rattle.transcript_law.proofs.Words.{ℕ, true, false, List, refl, ap, sym, ◌∙◌, subst, inl, inr, ⊎_elim, Some, None, Member, Cluster, Move, SoundCluster, happens, put, keeps, eq-eqb, ne_eqb}
use Rattle.transcript_law.proofs.Words.{Stream, Plain, Frame, is_active, is_follower, stream_at, row_at, row_put, row_out, PlainLink, link_number, producer_node, consumer_node, PlainWorld, Chronicle}
use Rattle.transcript_law.proofs.invariant.Carrying.{SameEnds, Became, NoNewStream, BecameOver, Relinked, BusyBut, Changed, Closed, IsApart, ToldOf, TakenOf, OthersTold, RoleOf, others_taken, StreamsChanged, MemberChanged, FedMember, FeedChanged}
use Rattle.transcript_law.proofs.{invariant.Seats.{seat, seats_apart}, invariant.Agreement.{vb_of, VbAgrees, AgreesAt, consumer_seat, producer_seat, LinkAgrees, IsLink, Differ, LinksDiffer, top, Busy, AgreesIn}}
use Rattle.transcript_law.proofs.{invariant.LinkRows.{found_is_link, links_apart, out_links, differ_out}, invariant.Carried.{places, not_both, fed_same, fed_all, disks_all, KeptVb, kept_same, told_at, taken_at, vb_carried, agrees_carried}}
use Rattle.transcript_law.proofs.invariant.Carried.{as_far, StaysProducer, link_carried, stream_opened, carried, carried_by, consumer_made, consumers_apart, branches_again, ids_same, kept_streams, no_writer, all_vbs}
use Rattle.{cluster_model.specs.Clusters.{Disk, cut}, transcript_law.proofs.invariant.Bounding.{cut_sound}}
use Rattle.transcript_law.proofs.{invariant.Agreement.{DiskIsIf, EndsUp, RestsIn, VbRow, power_of, shelf_of}, disks.Disks.{SameParts, disk_same, parts_of, same_parts}}
use Rattle.transcript_law.proofs.{invariant.Agreement.{IsArm, Power, PowerIs, PowerIsIf, clock_of, node_known}, invariant.Carrying.{Rearmed, SameOffs, SamePowers, off_of}, invariant.LinkRows.{put_links}, invariant.Resting.{StillAt, ends_again, ends_off, ends_same, rests_by, rests_with}, invariant.Tables.{id_here, id_there}}
use Rattle.transcript_law.proofs.invariant.{Carried.{all_there}, Carrying.{SameClients, same_clients}, ClientsKept.{ConnsKept, Every, IsFree, all_kept, changed_only, clients_kept, every_owed, fewer_at, fewer_now, fewer_streams, free_none, goes_follower, link_none, only_kept, spot_at, streams_kept}, LinkFeeds.{feeds_less, feeds_out, feeds_same, link_feeds}, ClientsTold.{ClientsTold}, ClientsTurned.{RoleTold, clients_turned, none_opened}, Owed.{Fewer, Owed, fewer_idle, fewer_same}}
use Rattle.{transcript_law.proofs.Words.{IsIn, hist}, transcript_law.specs.ClientStreams.{past_turn, with_clients_of}}
use Rattle.vb_events.specs.declared.event.StreamName.TheVariants as name
use Rattle.transcript_law.proofs.invariant.ClientsKept.{goes_agreed_at}
use Rattle.{node_world.specs.declared.arm.Arm.{Arm}, transcript_law.specs.Feeding.{HasFed, HasOpen, client_in}, transcript_law.proofs.invariant.Carried.{numbers}, transcript_law.proofs.Words.{with_id}, transcript_law.specs.Chronicles.{ArmKnown}}
use Rattle.transcript_law.proofs.invariant.Owing.{Later, later_same}
pub use Rattle.transcript_law.proofs.invariant.SameWorld.{carries_armed, carries_rests, carries_same}

-- the cluster with another member at k

pub put_here : (nodes : ℕ → Member) (k : ℕ) (m : Member) → put nodes k m k ≡ m
put_here nodes k m = ap (λ b. if b then m else nodes k) (eq-eqb k k refl)

pub put_there : (nodes : ℕ → Member) (k : ℕ) (m : Member) (j : ℕ) → (j ≡ k → ⊥) → put nodes k m j ≡ nodes j
put_there nodes k m j ne = ap (λ b. if b then m else nodes j) (ne_eqb j k ne)

pub disk_here : (disks : ℕ → Disk) (k : ℕ) (d : Disk) → put disks k d k ≡ d
disk_here disks k d = ap (λ b. if b then d else disks k) (eq-eqb k k refl)

pub disk_there : (disks : ℕ → Disk) (k : ℕ) (d : Disk) (j : ℕ) → (j ≡ k → ⊥) → put disks k d j ≡ disks j
disk_there disks k d j ne = ap (λ b. if b then d else disks j) (ne_eqb j k ne)

-- a vBucket at a place that is told otherwise
moved_vb : (w : PlainWorld) (n v m q : ℕ) (vb : Plain) → vb_of w n v ≡ Some vb → m ≡ n → q ≡ v → vb_of w m q ≡ Some vb
moved_vb w n v m q vb e s t = ap (λ x. vb_of w x q) s ∙ ap (vb_of w n) t ∙ e

one_vb : (w : PlainWorld) (n v : ℕ) (x y : Plain) → vb_of w n v ≡ Some x → vb_of w n v ≡ Some y → x ≡ y
one_vb w n v x y e f = cc

module _ (busy : Busy) (w : PlainWorld) (r r' : Chronicle) (c c' : Cluster) (l : ℕ) (link : PlainLink) (a : AgreesIn busy w r c) (found : row_at link_number l w.links ≡ Some link) where
  pub mine : LinkAgrees w r c link (busy l).0 (busy l).1
  mine = let p = found_is_link l w.links link found in subst (λ k. LinkAgrees w r c link (busy k).0 (busy k).1) p.1 (a.links link p.0)

  other_number : (x : PlainLink) → Differ link x → link_number x ≡ l → ⊥
  other_number x d e = d.number ((found_is_link l w.links link found).1 ∙ sym e)

  module _ (told : ToldOf l r r') (fed : FeedChanged (consumer_seat link) c c') where
    -- a vBucket that is left alone
    quiet_vb : (n v : ℕ) → AgreesAt r' n v (c'.nodes (seat n v)) (vb_of w n v)
    quiet_vb n v = agrees_carried r r' n v (c.nodes (seat n v)) (c'.nodes (seat n v)) (told_at l r r' n v told) (fed_all (consumer_seat link) c c' fed (seat n v)) (vb_of w n v)
        (λ none. fed.changed.others (seat n v) (consumer_made w r c link (busy l).0 (busy l).1 mine n v none)) (a.vbs n v)

    quiet_disk : (w' : PlainWorld) → ((n v : ℕ) → vb_of w' n v ≡ vb_of w n v) → ((n v : ℕ) → shelf_of w' n v ≡ shelf_of w n v) → (n v : ℕ) → DiskIsIf (r'.disk_at n v) (c'.disks (seat n v)) (shelf_of w' n v) (vb_of w' n v)
    quiet_disk w' same shelves n v = disk_same (vb_of w n v) (vb_of w' n v) (ap (λ (t : VbRow). t.disk) (told.rows n v)) (disks_all (consumer_seat link) c c' fed (seat n v)) (shelves n v)
        (subst (SameParts (vb_of w n v)) (sym (same n v)) (same_parts (vb_of w n v))) (a.disks n v)

    -- what rests at a place without a vBucket
    quiet_still : (w' : PlainWorld) (n v : ℕ) → vb_of w n v ≡ None → shelf_of w' n v ≡ shelf_of w n v → StillAt w w' r r' c c' n v
    quiet_still w' n v none shelf = record {
      vb = none;
      shelf = shelf;
      row = told.rows n v;
      member = fed.changed.others (seat n v) (consumer_made w r c link (busy l).0 (busy l).1 mine n v none);
      disk = disks_all (consumer_seat link) c c' fed (seat n v);
    }

    there_told : (n v : ℕ) → (r'.disk_at n v).there ≡ true → (r.disk_at n v).there ≡ true
    there_told n v e = ap (λ (t : VbRow). t.disk.there) (sym (told.rows n v)) ∙ e

    -- where no vBucket changes
    quiet_rests : (w' : PlainWorld) → SamePowers w w' → ((n v : ℕ) → vb_of w' n v ≡ vb_of w n v) → ((n v : ℕ) → shelf_of w' n v ≡ shelf_of w n v) → ((x : PlainLink) → IsLink x w'.links → EndsUp w' x) → RestsIn w' r' c'
    quiet_rests w' powers same shelves ends = rests_by w w' r r' c c' a.rests powers told.arms
        (λ n v none. quiet_still w' n v (sym (same n v) ∙ none) (shelves n v))
        (λ n v down. (same n v ∙ (a.downs n v).vb_none down, shelves n v ∙ (a.downs n v).shelf_none down))
        there_told ends

    quiet_conns : (w' : PlainWorld) → SamePowers w w' → ((n v : ℕ) → vb_of w' n v ≡ vb_of w n v) → ConnsKept Every w w' r r'
    quiet_conns w' powers same = all_kept w w' r r' (same_clients w w' powers) told.clients told.tree told.rows same

    quiet_owed : (w' : PlainWorld) → SamePowers w w' → ((n v : ℕ) → vb_of w' n v ≡ vb_of w n v) → Owed w' r'
    quiet_owed w' powers same = every_owed w w' r r' (quiet_conns w' powers same) told.last (λ n v. fewer_same (vb_of w n v) (vb_of w' n v) (same n v)) a.clients.owed

    quiet_link : (w' : PlainWorld) → ((n v : ℕ) → vb_of w' n v ≡ vb_of w n v) → (x : PlainLink) → IsLink x w.links → Differ link x
        → LinkAgrees w' r' c' x (busy (link_number x)).0 (busy (link_number x)).1
    quiet_link w' same x i d = link_carried w w' r r' c c' x (busy (link_number x)).0 (busy (link_number x)).1
        (λ fv e. (fv, same (consumer_node x) x.consumer.dialed.vb ∙ e, kept_same fv))
        (told.dials (link_number x) (other_number x d)) (told.streams (link_number x) x.consumer.dialed.vb (other_number x d)) (told.states (link_number x) (other_number x d)) (told.points (link_number x) (other_number x d)) (fed.changed.others (consumer_seat x) (consumers_apart link x d))
        (λ p id s e feeds opened has. let leads = fed_all (consumer_seat link) c c' fed (producer_seat x) in (p, same (producer_node x) x.consumer.dialed.vb ∙ e, refl, opened, leads.br, λ dead. leads.position, as_far leads.position))
        (a.links x i)

    module _ (w' : PlainWorld) (links : List PlainLink) (id : ℕ) (pv pv' : Plain) (known : vb_of w (producer_node link) link.consumer.dialed.vb ≡ Some pv) (changed : StreamsChanged id pv pv')
        (became : Changed w w' (producer_node link) link.consumer.dialed.vb pv' links) (free : HasOpen link.consumer.dialed.vb id link.server.streams ⊎ (stream_at id pv.streams ≡ None)) where
      producer_vbs : (n v : ℕ) → AgreesAt r' n v (c'.nodes (seat n v)) (vb_of w' n v)
      producer_vbs = all_vbs w w' (producer_node link) link.consumer.dialed.vb pv' (λ n v o. AgreesAt r' n v (c'.nodes (seat n v)) o) became.here became.there
          (vb_carried r r' (producer_node link) link.consumer.dialed.vb (c.nodes (producer_seat link)) (c'.nodes (producer_seat link)) (told_at l r r' (producer_node link) link.consumer.dialed.vb told)
          (fed_all (consumer_seat link) c c' fed (producer_seat link)) id pv pv' changed
          (subst (AgreesAt r (producer_node link) link.consumer.dialed.vb (c.nodes (producer_seat link))) known (a.vbs (producer_node link) link.consumer.dialed.vb))) (λ n v o. quiet_vb n v)

      producer_disks : (shelf_of w' (producer_node link) link.consumer.dialed.vb ≡ shelf_of w (producer_node link) link.consumer.dialed.vb) → (n v : ℕ) → DiskIsIf (r'.disk_at n v) (c'.disks (seat n v)) (shelf_of w' n v) (vb_of w' n v)
      producer_disks shelf n v = disk_same (vb_of w n v) (vb_of w' n v) (ap (λ (t : VbRow). t.disk) (told.rows n v)) (disks_all (consumer_seat link) c c' fed (seat n v)) shelves parts (a.disks n v)
        where
          shelves : shelf_of w' n v ≡ shelf_of w n v
          shelves = ⊎_elim (λ s. ap (λ x. shelf_of w' x v) s.0 ∙ ap (shelf_of w' (producer_node link)) s.1 ∙ shelf ∙ sym (ap (λ x. shelf_of w x v) s.0 ∙ ap (shelf_of w (producer_node link)) s.1)) (λ o. became.shelves n v o)
              (places (producer_node link) link.consumer.dialed.vb n v)

          parts : SameParts (vb_of w n v) (vb_of w' n v)
          parts = ⊎_elim
              (λ s. subst (λ x. SameParts x (vb_of w' n v)) (sym (moved_vb w (producer_node link) link.consumer.dialed.vb n v pv known s.0 s.1))
              (subst (SameParts (Some pv)) (sym (moved_vb w' (producer_node link) link.consumer.dialed.vb n v pv' became.here s.0 s.1)) (ap parts_of changed.alone)))
              (λ o. subst (SameParts (vb_of w n v)) (sym (became.there n v o)) (same_parts (vb_of w n v)))
              (places (producer_node link) link.consumer.dialed.vb n v)

      -- what rests beside the vBucket that changed
      producer_rests : ((x : PlainLink) → IsLink x w'.links → EndsUp w' x) → RestsIn w' r' c'
      producer_rests ends = rests_by w w' r r' c c' a.rests became.powers told.arms
          (λ n v none. ⊎_elim (λ s. let z : Some pv' ≡ None = sym (moved_vb w' (producer_node link) link.consumer.dialed.vb n v pv' became.here s.0 s.1) ∙ none in cc)
          (λ o. quiet_still w' n v (sym (became.there n v o) ∙ none) (became.shelves n v o)) (places (producer_node link) link.consumer.dialed.vb n v))
          (λ n v down. ⊎_elim (λ s. let z : Some pv ≡ None = sym (moved_vb w (producer_node link) link.consumer.dialed.vb n v pv known s.0 s.1) ∙ (a.downs n v).vb_none down in cc)
          (λ o. (became.there n v o ∙ (a.downs n v).vb_none down, became.shelves n v o ∙ (a.downs n v).shelf_none down)) (places (producer_node link) link.consumer.dialed.vb n v))
          there_told ends

      -- it is no client's, and clients' streams stand there
      producer_conns : ConnsKept Every w w' r r'
      producer_conns = streams_kept Every w w' r r' (producer_node link) link.consumer.dialed.vb id pv pv'
          (changed_only w w' r r' (producer_node link) link.consumer.dialed.vb pv' links became told.clients told.tree (λ m q o. told.rows m q)) known became.here changed (told.rows (producer_node link) link.consumer.dialed.vb)
          (λ d left. ⊎_elim
          (λ opens. let is = found_is_link l w.links link found in link_none w a.clients.apart l (producer_node link) link.consumer.dialed.vb id (link_feeds w a.differ l (producer_node link) link.consumer.dialed.vb id link is.0 is.1 refl opens) d)
          (λ none. free_none w (all_there busy w r c a) (producer_node link) link.consumer.dialed.vb id (subst (IsFree id) (sym known) none) d)
          free)

      producer_owed : Owed w' r'
      producer_owed = every_owed w w' r r' producer_conns told.last
          (fewer_at w w' (producer_node link) link.consumer.dialed.vb became.there (fewer_now w w' (producer_node link) link.consumer.dialed.vb pv pv' known became.here (fewer_streams id pv pv' changed))) a.clients.owed

      -- no other link's stream is open there under its number
      clash : (y : PlainLink) (k : ℕ) (s : Stream) → Differ link y → producer_node y ≡ producer_node link → stream_at k pv.streams ≡ Some s → HasOpen link.consumer.dialed.vb k y.server.streams → k ≡ id → ⊥
      clash y k s d e opened has q = ⊎_elim (λ had. d.stream link.consumer.dialed.vb k (subst (λ j. HasOpen link.consumer.dialed.vb j link.server.streams) (sym q) had) has (sym e))
          (λ none. let z : stream_at k pv.streams ≡ None = ap (λ j. stream_at j pv.streams) q ∙ none in cc) free

      producer_streams : (y : PlainLink) → IsLink y w.links → Differ link y → HasOpen link.consumer.dialed.vb id y.server.streams → producer_node link ≡ producer_node y → ⊥
      producer_streams y i d has e =
          let (p, is, feeds, s, opened, at) = stream_opened w r c y (busy (link_number y)).0 (busy (link_number y)).1 (a.links y i) link.consumer.dialed.vb id has in
          let same : p ≡ pv = one_vb w (producer_node y) y.consumer.dialed.vb p pv is (moved_vb w (producer_node link) link.consumer.dialed.vb (producer_node y) y.consumer.dialed.vb pv known (sym e) at) in
          clash y id s d (sym e) (subst (λ (k : Plain). stream_at id k.streams ≡ Some s) same opened) has refl

      producer_follower : (x : PlainLink) (fv : Plain) → vb_of w (consumer_node x) x.consumer.dialed.vb ≡ Some fv → (fv' : Plain) × (vb_of w' (consumer_node x) x.consumer.dialed.vb ≡ Some fv') × KeptVb fv fv'
      producer_follower x fv e = ⊎_elim
          (λ s. let same : fv ≡ pv = one_vb w (consumer_node x) x.consumer.dialed.vb fv pv e (moved_vb w (producer_node link) link.consumer.dialed.vb (consumer_node x) x.consumer.dialed.vb pv known s.0 s.1) in (
            pv',
            moved_vb w' (producer_node link) link.consumer.dialed.vb (consumer_node x) x.consumer.dialed.vb pv' became.here s.0 s.1,
            subst (λ k. KeptVb k pv') (sym same) (kept_streams id pv pv' changed),
          ))
          (λ o. (fv, became.there (consumer_node x) x.consumer.dialed.vb o ∙ e, kept_same fv))
          (places (producer_node link) link.consumer.dialed.vb (consumer_node x) x.consumer.dialed.vb)

      producer_stays : (x : PlainLink) → Differ link x
          → StaysProducer (vb_of w (producer_node x) x.consumer.dialed.vb) (vb_of w' (producer_node x) x.consumer.dialed.vb) (c.nodes (producer_seat x)) (c'.nodes (producer_seat x)) x
      producer_stays x d p k s e feeds opened has = ⊎_elim
          (λ t. let same : p ≡ pv = one_vb w (producer_node x) x.consumer.dialed.vb p pv e (moved_vb w (producer_node link) link.consumer.dialed.vb (producer_node x) x.consumer.dialed.vb pv known t.0 t.1) in
          let there : stream_at k pv.streams ≡ Some s = subst (λ (q : Plain). stream_at k q.streams ≡ Some s) same opened in (
            pv',
            moved_vb w' (producer_node link) link.consumer.dialed.vb (producer_node x) x.consumer.dialed.vb pv' became.here t.0 t.1,
            ap (λ (q : Plain). q.role) changed.alone ∙ ap (λ (q : Plain). q.role) (sym same),
            changed.others k (clash x k s d t.0 there (subst (λ v. HasOpen v k x.server.streams) t.1 has)) ∙ there,
            (fed_all (consumer_seat link) c c' fed (producer_seat x)).br,
            λ dead. (fed_all (consumer_seat link) c c' fed (producer_seat x)).position,
            as_far (fed_all (consumer_seat link) c c' fed (producer_seat x)).position,
          ))
          (λ o. let leads = fed_all (consumer_seat link) c c' fed (producer_seat x) in (p, became.there (producer_node x) x.consumer.dialed.vb o ∙ e, refl, opened, leads.br, λ dead. leads.position, as_far leads.position))
          (places (producer_node link) link.consumer.dialed.vb (producer_node x) x.consumer.dialed.vb)

      producer_other : (x : PlainLink) → IsLink x w.links → Differ link x → LinkAgrees w' r' c' x (busy (link_number x)).0 (busy (link_number x)).1
      producer_other x i d = link_carried w w' r r' c c' x (busy (link_number x)).0 (busy (link_number x)).1 (producer_follower x)
          (told.dials (link_number x) (other_number x d)) (told.streams (link_number x) x.consumer.dialed.vb (other_number x d)) (told.states (link_number x) (other_number x d)) (told.points (link_number x) (other_number x d)) (fed.changed.others (consumer_seat x) (consumers_apart link x d))
          (producer_stays x d) (a.links x i)

-- the ends of links, where one of them is another between the same ends
pub put_ends : (busy : Busy) (w w' : PlainWorld) (r : Chronicle) (c : Cluster) (l : ℕ) (link link' : PlainLink) → AgreesIn busy w r c → row_at link_number l w.links ≡ Some link → SameEnds link link' → SamePowers w w'
    → w'.links ≡ row_put link_number l link' w.links → (x : PlainLink) → IsLink x w'.links → EndsUp w' x
put_ends busy w w' r c l link link' a found same powers linked x i =
    let is = found_is_link l w.links link found in
    ⊎_elim (λ e. subst (EndsUp w') (sym e) (ends_same w w' link link' powers same (a.ends link is.0))) (λ p. ends_again w w' x powers (a.ends x p.0))
    (put_links l w.links link link' x a.differ found (ap (λ d. d.link) same.dialed ∙ is.1) (subst (IsLink x) linked i))

-- and where one is taken out
pub out_ends : (busy : Busy) (w w' : PlainWorld) (r : Chronicle) (c : Cluster) (l : ℕ) (link : PlainLink) → AgreesIn busy w r c → row_at link_number l w.links ≡ Some link → SamePowers w w'
    → w'.links ≡ row_out link_number (link_number link) w.links → (x : PlainLink) → IsLink x w'.links → EndsUp w' x
out_ends busy w w' r c l link a found powers linked x i =
    let is = found_is_link l w.links link found in
    ends_again w w' x powers (a.ends x (out_links l w.links link x a.differ found (subst (IsLink x) (linked ∙ ap (λ k. row_out link_number k w.links) is.1) i)).0)

-- a step at a link's producer, and at its consumer's member of the cluster how it is fed
pub carries_producer : (busy busy' : Busy) (w w' : PlainWorld) (r r' : Chronicle) (c c' : Cluster) (l : ℕ) (link link' : PlainLink) (id : ℕ) (pv pv' : Plain)
    → AgreesIn busy w r c → row_at link_number l w.links ≡ Some link → SameEnds link link'
    → vb_of w (producer_node link) link.consumer.dialed.vb ≡ Some pv → StreamsChanged id pv pv'
    → Became w w' (producer_node link) link.consumer.dialed.vb pv' l link'
    → (shelf_of w' (producer_node link) link.consumer.dialed.vb ≡ shelf_of w (producer_node link) link.consumer.dialed.vb)
    → HasOpen link.consumer.dialed.vb id link.server.streams ⊎ (stream_at id pv.streams ≡ None) → ((v k : ℕ) → HasOpen v k link'.server.streams → (v ≡ link.consumer.dialed.vb) × (k ≡ id))
    → ToldOf l r r' → FeedChanged (consumer_seat link) c c' → SoundCluster top c' → BusyBut l busy busy'
    → LinkAgrees w' r' c' link' (busy' l).0 (busy' l).1 → AgreesIn busy' w' r' c'
carries_producer busy busy' w w' r r' c c' l link link' id pv pv' a found same known changed became shelf free only told fed sound but agrees =
    carried busy busy' w w' r r' c c' l link link' a found same
    (producer_vbs busy w r r' c c' l link a found told fed w' (row_put link_number l link' w.links) id pv pv' known changed became free)
    (producer_disks busy w r r' c c' l link a found told fed w' (row_put link_number l link' w.links) id pv pv' known changed became free shelf)
    fed.changed.tree told.tree became.uuids became.linked sound but
    (producer_other busy w r r' c c' l link a found told fed w' (row_put link_number l link' w.links) id pv pv' known changed became free)
    (λ y i d v k s t e. let is = only v k s in
    producer_streams busy w r r' c c' l link a found told fed w' (row_put link_number l link' w.links) id pv pv' known changed became free y i d
    (subst (λ q. HasOpen q id y.server.streams) is.0 (subst (λ j. HasOpen v j y.server.streams) is.1 t)) e)
    (producer_conns busy w r r' c c' l link a found told fed w' (row_put link_number l link' w.links) id pv pv' known changed became free)
    (λ v k s. let is = only v k s in
    subst (λ q. HasOpen q k link.server.streams ⊎ IsFree k (vb_of w (producer_node link) q)) (sym is.0) (subst (λ j. HasOpen link.consumer.dialed.vb j link.server.streams ⊎ IsFree j (vb_of w (producer_node link) link.consumer.dialed.vb)) (sym is.1)
    (⊎_elim (λ opens. inl opens) (λ none. inr (subst (IsFree id) (sym known) none)) free)))
    (producer_rests busy w r r' c c' l link a found told fed w' (row_put link_number l link' w.links) id pv pv' known changed became free (put_ends busy w w' r c l link link' a found same became.powers became.linked))
    agrees (producer_owed busy w r r' c c' l link a found told fed w' (row_put link_number l link' w.links) id pv pv' known changed became free)

pub fed_none : (k : ℕ) (c : Cluster) → FeedChanged k c c
fed_none k c = record { changed = record { tree = refl; others = λ j ne. refl; disks = λ j ne. refl }; fed = fed_same (c.nodes k); disk = refl }

-- a step that changes no vBucket and no member of the cluster
pub carries_link : (busy busy' : Busy) (w w' : PlainWorld) (r r' : Chronicle) (c : Cluster) (l : ℕ) (link link' : PlainLink)
    → AgreesIn busy w r c → row_at link_number l w.links ≡ Some link → SameEnds link link'
    → Relinked w w' (row_put link_number l link' w.links) → NoNewStream link link'
    → ToldOf l r r' → BusyBut l busy busy'
    → LinkAgrees w' r' c link' (busy' l).0 (busy' l).1 → AgreesIn busy' w' r' c
carries_link busy busy' w w' r r' c l link link' a found same became less told but agrees = carried busy busy' w w' r r' c c l link link' a found same
    (λ n v. subst (AgreesAt r' n v (c.nodes (seat n v))) (sym (became.vbs n v)) (quiet_vb busy w r r' c c l link a found told (fed_none (consumer_seat link) c) n v))
    (quiet_disk busy w r r' c c l link a found told (fed_none (consumer_seat link) c) w' became.vbs became.shelves)
    refl told.tree became.uuids became.linked a.sound but
    (quiet_link busy w r r' c c l link a found told (fed_none (consumer_seat link) c) w' became.vbs)
    (λ y i d v id s. d.stream v id (less v id s))
    (quiet_conns busy w r r' c c l link a found told (fed_none (consumer_seat link) c) w' became.powers became.vbs) (λ v id s. inl (less v id s))
    (quiet_rests busy w r r' c c l link a found told (fed_none (consumer_seat link) c) w' became.powers became.vbs became.shelves (put_ends busy w w' r c l link link' a found same became.powers became.linked))
    agrees (quiet_owed busy w r r' c c l link a found told (fed_none (consumer_seat link) c) w' became.powers became.vbs)

-- the cluster without what was on its way to a member
pub cut_changed : (k : ℕ) (c : Cluster) → FeedChanged k c (happens c (Move.Cut k))
cut_changed k c = record {
  changed = record { tree = refl; others = put_there c.nodes k (cut (c.nodes k)); disks = disk_there c.disks k (c.disks k) };
  fed = subst (FedMember (c.nodes k)) (sym (put_here c.nodes k (cut (c.nodes k)))) (record { active = refl; br = refl; held = refl; position = refl; log = refl });
  disk = disk_here c.disks k (c.disks k);
}

-- the consumer of a link whose vBucket follows is a member that takes no writes
pub consumer_quiet : (busy : Busy) (w : PlainWorld) (r : Chronicle) (c : Cluster) (link : PlainLink) (up down : List Frame) → AgreesIn busy w r c → (m : LinkAgrees w r c link up down) → is_follower m.follower.role ≡ true
    → (c.nodes (consumer_seat link)).active ≡ false
consumer_quiet busy w r c link up down a m follows =
    let vb = subst (AgreesAt r (consumer_node link) link.consumer.dialed.vb (c.nodes (consumer_seat link))) m.follower_is (a.vbs (consumer_node link) link.consumer.dialed.vb) in
    vb.member.active ∙ no_writer m.follower.role follows

-- the parts of a step that leaves a link out
module _ (busy busy' : Busy) (w w' : PlainWorld) (r r' : Chronicle) (c c' : Cluster) (l : ℕ) (link : PlainLink) (a : AgreesIn busy w r c) (found : row_at link_number l w.links ≡ Some link)
    (rtree : r'.tree ≡ r.tree) (ctree : c'.tree ≡ c.tree) (sound : SoundCluster top c') (but : BusyBut l busy busy') where
  left_is : IsLink link w.links × (link_number link ≡ l)
  left_is = found_is_link l w.links link found

  pub left_out : ((n v : ℕ) → AgreesAt r' n v (c'.nodes (seat n v)) (vb_of w' n v)) → ((n v : ℕ) → DiskIsIf (r'.disk_at n v) (c'.disks (seat n v)) (shelf_of w' n v) (vb_of w' n v)) → w'.uuids ≡ w.uuids → w'.links ≡ row_out link_number (link_number link) w.links
      → ((x : PlainLink) → IsLink x w.links → Differ link x → LinkAgrees w' r' c' x (busy (link_number x)).0 (busy (link_number x)).1) → ConnsKept Every w w' r r' → RestsIn w' r' c' → Owed w' r' → AgreesIn busy' w' r' c'
  left_out vbs disks uuids linked others conns rests owed =
      let links : w'.links ≡ row_out link_number l w.links = linked ∙ ap (λ k. row_out link_number k w.links) left_is.1 in
      record {
        sound = sound;
        vbs = vbs;
        disks = disks;
        rests = rests;
        branches = branches_again ctree rtree (ids_same uuids) a.branches;
        links = λ x i.
            let p = out_links l w.links link x a.differ found (subst (IsLink x) links i) in
            subst (λ b. LinkAgrees w' r' c' x b.0 b.1) (sym (but (link_number x) p.1)) (others x p.0 (links_apart link x w.links a.differ left_is.0 p.0 (λ e. p.1 (sym e ∙ left_is.1))));
        differ = subst LinksDiffer (sym links) (differ_out l w.links link a.differ found);
        clients = clients_kept w w' r r' l a.clients (all_there busy w r c a) conns (λ k n v id has. inl (feeds_out w w' l link a.differ found links k n v id has)) owed;
      }

module _ (busy busy' : Busy) (w w' : PlainWorld) (r r' : Chronicle) (c : Cluster) (l : ℕ) (link : PlainLink) (a : AgreesIn busy w r c) (found : row_at link_number l w.links ≡ Some link)
    (told : ToldOf l r r') (but : BusyBut l busy busy') where
  abbrev gone : Cluster
  gone = happens c (Move.Cut (consumer_seat link))

  abbrev links : List PlainLink
  links = row_out link_number (link_number link) w.links

  fed : FeedChanged (consumer_seat link) c gone
  fed = cut_changed (consumer_seat link) c

  sound : SoundCluster top gone
  sound = cut_sound top c (consumer_seat link) a.sound

  -- no vBucket was changed
  same_over : Relinked w w' links → AgreesIn busy' w' r' gone
  same_over became = left_out busy busy' w w' r r' c gone l link a found told.tree refl sound but
      (λ n v. subst (AgreesAt r' n v (gone.nodes (seat n v))) (sym (became.vbs n v)) (quiet_vb busy w r r' c gone l link a found told fed n v)) (quiet_disk busy w r r' c gone l link a found told fed w' became.vbs became.shelves) became.uuids became.linked
      (quiet_link busy w r r' c gone l link a found told fed w' became.vbs)
      (quiet_conns busy w r r' c gone l link a found told fed w' became.powers became.vbs)
      (quiet_rests busy w r r' c gone l link a found told fed w' became.powers became.vbs became.shelves (out_ends busy w w' r c l link a found became.powers became.linked))
      (quiet_owed busy w r r' c gone l link a found told fed w' became.powers became.vbs)

  -- the link's stream was closed
  closed_over : Closed w w' link → AgreesIn busy' w' r' gone
  closed_over (id, pv, pv', opens, known, changed, became, shelf) = left_out busy busy' w w' r r' c gone l link a found told.tree refl sound but
      (producer_vbs busy w r r' c gone l link a found told fed w' links id pv pv' known changed became (inl opens))
      (producer_disks busy w r r' c gone l link a found told fed w' links id pv pv' known changed became (inl opens) shelf) became.uuids became.linked
      (producer_other busy w r r' c gone l link a found told fed w' links id pv pv' known changed became (inl opens))
      (producer_conns busy w r r' c gone l link a found told fed w' links id pv pv' known changed became (inl opens))
      (producer_rests busy w r r' c gone l link a found told fed w' links id pv pv' known changed became (inl opens) (out_ends busy w w' r c l link a found became.powers became.linked))
      (producer_owed busy w r r' c gone l link a found told fed w' links id pv pv' known changed became (inl opens))

-- a link is over: its consumer is cut off
pub carries_over : (busy busy' : Busy) (w w' : PlainWorld) (r r' : Chronicle) (c : Cluster) (l : ℕ) (link : PlainLink)
    → AgreesIn busy w r c → row_at link_number l w.links ≡ Some link → BecameOver w w' link
    → ToldOf l r r' → BusyBut l busy busy' → AgreesIn busy' w' r' (happens c (Move.Cut (consumer_seat link)))
carries_over busy busy' w w' r r' c l link a found became told but =
    ⊎_elim (λ same. same_over busy busy' w w' r r' c l link a found told but same) (λ closed. closed_over busy busy' w w' r r' c l link a found told but closed) became

-- a step at a link's consumer, whose vBucket follows before it

module _ (busy : Busy) (w w' : PlainWorld) (r r' : Chronicle) (c c' : Cluster) (l : ℕ) (link : PlainLink) (fv fv' : Plain) (links : List PlainLink) (a : AgreesIn busy w r c) (found : row_at link_number l w.links ≡ Some link)
    (known : vb_of w (consumer_node link) link.consumer.dialed.vb ≡ Some fv) (follows : is_follower fv.role ≡ true)
    (became : Changed w w' (consumer_node link) link.consumer.dialed.vb fv' links)
    (beside : OthersTold l (consumer_node link) link.consumer.dialed.vb r r') (others : (n v : ℕ) → (n ≡ consumer_node link → v ≡ link.consumer.dialed.vb → ⊥) → AgreesAt r' n v (c'.nodes (seat n v)) (vb_of w n v)) (changed : MemberChanged (consumer_seat link) c c')
    (agrees : VbAgrees r' (consumer_node link) link.consumer.dialed.vb (c'.nodes (consumer_seat link)) fv')
    (disk : DiskIsIf (r'.disk_at (consumer_node link) link.consumer.dialed.vb) (c'.disks (consumer_seat link)) (shelf_of w' (consumer_node link) link.consumer.dialed.vb) (Some fv')) where
  other_seat : (n v : ℕ) → (n ≡ consumer_node link → v ≡ link.consumer.dialed.vb → ⊥) → seat n v ≡ consumer_seat link → ⊥
  other_seat n v o = seats_apart n v (consumer_node link) link.consumer.dialed.vb o

  consumer_vbs : (n v : ℕ) → AgreesAt r' n v (c'.nodes (seat n v)) (vb_of w' n v)
  consumer_vbs = all_vbs w w' (consumer_node link) link.consumer.dialed.vb fv' (λ n v o. AgreesAt r' n v (c'.nodes (seat n v)) o) became.here became.there agrees others

  other_disk : (n v : ℕ) → (n ≡ consumer_node link → v ≡ link.consumer.dialed.vb → ⊥) → DiskIsIf (r'.disk_at n v) (c'.disks (seat n v)) (shelf_of w' n v) (vb_of w n v)
  other_disk n v o = disk_same (vb_of w n v) (vb_of w n v) (ap (λ (t : VbRow). t.disk) (beside.rows n v o)) (changed.disks (seat n v) (other_seat n v o)) (became.shelves n v o) (same_parts (vb_of w n v)) (a.disks n v)

  consumer_disks : (n v : ℕ) → DiskIsIf (r'.disk_at n v) (c'.disks (seat n v)) (shelf_of w' n v) (vb_of w' n v)
  consumer_disks = all_vbs w w' (consumer_node link) link.consumer.dialed.vb fv' (λ n v o. DiskIsIf (r'.disk_at n v) (c'.disks (seat n v)) (shelf_of w' n v) o) became.here became.there disk other_disk

  -- what rests beside it, where the arms are as they were
  pub role_rests : ((m : ℕ) → node_known r' m ≡ node_known r m) → (r'.disk_at (consumer_node link) link.consumer.dialed.vb).there ≡ (r.disk_at (consumer_node link) link.consumer.dialed.vb).there
      → ((x : PlainLink) → IsLink x w'.links → EndsUp w' x) → RestsIn w' r' c'
  role_rests arms same ends = rests_by w w' r r' c c' a.rests became.powers arms
      (λ n v none. ⊎_elim (λ s. let z : Some fv' ≡ None = sym (moved_vb w' (consumer_node link) link.consumer.dialed.vb n v fv' became.here s.0 s.1) ∙ none in cc)
      (λ o. record { vb = sym (became.there n v o) ∙ none; shelf = became.shelves n v o; row = beside.rows n v o; member = changed.others (seat n v) (other_seat n v o); disk = changed.disks (seat n v) (other_seat n v o) }) (places (consumer_node link) link.consumer.dialed.vb n v))
      (λ n v down. ⊎_elim (λ s. let z : Some fv ≡ None = sym (moved_vb w (consumer_node link) link.consumer.dialed.vb n v fv known s.0 s.1) ∙ (a.downs n v).vb_none down in cc)
      (λ o. (became.there n v o ∙ (a.downs n v).vb_none down, became.shelves n v o ∙ (a.downs n v).shelf_none down)) (places (consumer_node link) link.consumer.dialed.vb n v))
      (λ n v e. ⊎_elim (λ s. ap (λ x. (r.disk_at x v).there) s.0 ∙ ap (λ y. (r.disk_at (consumer_node link) y).there) s.1 ∙ sym same ∙ sym (ap (λ x. (r'.disk_at x v).there) s.0 ∙ ap (λ y. (r'.disk_at (consumer_node link) y).there) s.1) ∙ e)
      (λ o. ap (λ (t : VbRow). t.disk.there) (sym (beside.rows n v o)) ∙ e) (places (consumer_node link) link.consumer.dialed.vb n v))
      ends

  consumer_stays : (x : PlainLink) → StaysProducer (vb_of w (producer_node x) x.consumer.dialed.vb) (vb_of w' (producer_node x) x.consumer.dialed.vb) (c.nodes (producer_seat x)) (c'.nodes (producer_seat x)) x
  consumer_stays x p id s e feeds opened has = ⊎_elim
      (λ t. let same : p ≡ fv = one_vb w (producer_node x) x.consumer.dialed.vb p fv e (moved_vb w (consumer_node link) link.consumer.dialed.vb (producer_node x) x.consumer.dialed.vb fv known t.0 t.1) in
      let z : false ≡ true = sym feeds ∙ ap (λ (k : Plain). is_follower k.role) same ∙ follows in cc)
      (λ o. let far = changed.others (producer_seat x) (other_seat (producer_node x) x.consumer.dialed.vb o) in
      (p, became.there (producer_node x) x.consumer.dialed.vb o ∙ e, refl, opened, ap (λ (m : Member). m.br) far, λ dead. ap (λ (m : Member). m.position) far, as_far (ap (λ (m : Member). m.position) far)))
      (places (consumer_node link) link.consumer.dialed.vb (producer_node x) x.consumer.dialed.vb)

  apart_dial : (x : PlainLink) → IsLink x w.links → Differ link x → IsApart (consumer_node link) link.consumer.dialed.vb (r.dial_of (link_number x))
  apart_dial x i d = subst (IsApart (consumer_node link) link.consumer.dialed.vb) (sym (a.links x i).dialed) (λ s t. d.follower (sym s) (sym t))

  consumer_other : (x : PlainLink) → IsLink x w.links → Differ link x → LinkAgrees w' r' c' x (busy (link_number x)).0 (busy (link_number x)).1
  consumer_other x i d = link_carried w w' r r' c c' x (busy (link_number x)).0 (busy (link_number x)).1
      (λ v e. (v, became.there (consumer_node x) x.consumer.dialed.vb (λ s t. d.follower (sym s) (sym t)) ∙ e, kept_same v))
      (beside.dials (link_number x) (other_number busy w r r' c c' l link a found x d)) (beside.streams (link_number x) x.consumer.dialed.vb (other_number busy w r r' c c' l link a found x d) (apart_dial x i d))
      (beside.states (link_number x) (other_number busy w r r' c c' l link a found x d)) (beside.points (link_number x) (other_number busy w r r' c c' l link a found x d) (apart_dial x i d))
      (changed.others (consumer_seat x) (consumers_apart link x d)) (consumer_stays x) (a.links x i)

-- it gets a role: no stream of a client was open at it, and none is
role_clients : (busy : Busy) (w w' : PlainWorld) (r r' : Chronicle) (c c' : Cluster) (n v : ℕ) (fv fv' : Plain) (links : List PlainLink) → AgreesIn busy w r c → vb_of w n v ≡ Some fv → is_follower fv.role ≡ true → Fewer (Some fv) (Some fv') → Changed w w' n v fv' links
    → Later r r' → r'.tree ≡ r.tree → ((m d : ℕ) → r'.clients_at m d ≡ with_clients_of r.clients_at n (past_turn v (r.held n v)) m d)
    → ((m q : ℕ) → (m ≡ n → q ≡ v → ⊥) → AgreesAt r' m q (c'.nodes (seat m q)) (vb_of w m q)) → ((m q : ℕ) → (m ≡ n → q ≡ v → ⊥) → c'.nodes (seat m q) ≡ c.nodes (seat m q))
    → ((k m q id : ℕ) → HasFed w' (name.Link k) m q id → HasFed w (name.Link k) m q id) → ClientsTold w' r'
role_clients busy w w' r r' c c' n v fv fv' links a known follows fewer became last tree clients others members feeds =
    clients_turned w w' r r' n v a.clients told (all_there busy w r c a) feeds last (fewer_at w w' n v became.there (fewer_now w w' n v fv fv' known became.here fewer))
  where
    quiet : (vb : Plain) → vb_of w n v ≡ Some vb → is_active vb.role ≡ false
    quiet vb e = let z : Some vb ≡ Some fv = sym e ∙ known in let same : vb ≡ fv = cc in ap (λ (k : Plain). is_active k.role) same ∙ no_writer fv.role follows

    told : RoleTold w w' r r' n v
    told = record {
      here = λ d client' is. let was : client_in (w.nodes n) d ≡ Some client' = sym (same_clients w w' became.powers n d) ∙ is in (client', was, none_opened w r n v d client' quiet (a.clients.each n d client' was));
      there = λ m d ne. same_clients w w' became.powers m d;
      known = clients;
      goes = λ m q o d id has.
          let same = members m q o in
          goes_agreed_at w w' r r' m q id (c.nodes (seat m q)) (c'.nodes (seat m q)) (vb_of w m q) refl (became.there m q o) (a.vbs m q) (others m q o)
          (ap (λ (x : Member). x.br) same) (λ x i. subst (λ (y : Member). IsIn x y.held) (sym same) i) (λ x. ap (λ t. hist t (c.nodes (seat m q)).br) tree);
    }

pub carries_turned : (busy busy' : Busy) (w w' : PlainWorld) (r r' : Chronicle) (c c' : Cluster) (l : ℕ) (link link' : PlainLink) (fv fv' : Plain)
    → AgreesIn busy w r c → row_at link_number l w.links ≡ Some link → SameEnds link link'
    → vb_of w (consumer_node link) link.consumer.dialed.vb ≡ Some fv → is_follower fv.role ≡ true → Fewer (Some fv) (Some fv')
    → Became w w' (consumer_node link) link.consumer.dialed.vb fv' l link' → NoNewStream link link'
    → RoleOf l (consumer_node link) link.consumer.dialed.vb r r' → ((n v : ℕ) → (n ≡ consumer_node link → v ≡ link.consumer.dialed.vb → ⊥) → AgreesAt r' n v (c'.nodes (seat n v)) (vb_of w n v))
    → MemberChanged (consumer_seat link) c c' → SoundCluster top c' → BusyBut l busy busy'
    → VbAgrees r' (consumer_node link) link.consumer.dialed.vb (c'.nodes (consumer_seat link)) fv'
    → DiskIsIf (r'.disk_at (consumer_node link) link.consumer.dialed.vb) (c'.disks (consumer_seat link)) (shelf_of w' (consumer_node link) link.consumer.dialed.vb) (Some fv')
    → RestsIn w' r' c' → LinkAgrees w' r' c' link' (busy' l).0 (busy' l).1 → AgreesIn busy' w' r' c'
carries_turned busy busy' w w' r r' c c' l link link' fv fv' a found same known follows fewer became less taken others changed sound but vb disk rests agrees =
    let links = row_put link_number l link' w.links in let n = consumer_node link in let v = link.consumer.dialed.vb in
    carried_by busy busy' w w' r r' c c' l link link' a found same
    (consumer_vbs busy w w' r r' c c' l link fv fv' links a found known follows became taken.beside others changed vb disk)
    (consumer_disks busy w w' r r' c c' l link fv fv' links a found known follows became taken.beside others changed vb disk)
    changed.tree taken.tree became.uuids became.linked sound but
    (consumer_other busy w w' r r' c c' l link fv fv' links a found known follows became taken.beside others changed vb disk)
    (λ y i d q id s. d.stream q id (less q id s))
    (role_clients busy w w' r r' c c' n v fv fv' links a known follows fewer became taken.last taken.tree taken.clients others (λ m q o. changed.others (seat m q) (seats_apart m q n v o)) (feeds_less w w' l link link' a.differ found same became.linked less))
    rests
    agrees

-- a step after which it follows as before, and clients are told as before

module _ (busy : Busy) (w w' : PlainWorld) (r r' : Chronicle) (c c' : Cluster) (l : ℕ) (link : PlainLink) (fv fv' : Plain) (links : List PlainLink) (a : AgreesIn busy w r c) (found : row_at link_number l w.links ≡ Some link)
    (known : vb_of w (consumer_node link) link.consumer.dialed.vb ≡ Some fv) (follows : is_follower fv.role ≡ true) (follows' : is_follower fv'.role ≡ true)
    (became : Changed w w' (consumer_node link) link.consumer.dialed.vb fv' links)
    (taken : TakenOf l (consumer_node link) link.consumer.dialed.vb r r') (changed : MemberChanged (consumer_seat link) c c')
    (agrees : VbAgrees r' (consumer_node link) link.consumer.dialed.vb (c'.nodes (consumer_seat link)) fv')
    (disk : DiskIsIf (r'.disk_at (consumer_node link) link.consumer.dialed.vb) (c'.disks (consumer_seat link)) (shelf_of w' (consumer_node link) link.consumer.dialed.vb) (Some fv')) where
  other_vb : (n v : ℕ) → (n ≡ consumer_node link → v ≡ link.consumer.dialed.vb → ⊥) → AgreesAt r' n v (c'.nodes (seat n v)) (vb_of w n v)
  other_vb n v o = subst (λ m. AgreesAt r' n v m (vb_of w n v)) (sym (changed.others (seat n v) (seats_apart n v (consumer_node link) link.consumer.dialed.vb o)))
      (agrees_carried r r' n v (c.nodes (seat n v)) (c.nodes (seat n v)) (taken_at l (consumer_node link) link.consumer.dialed.vb r r' n v taken o) (fed_same (c.nodes (seat n v))) (vb_of w n v) (λ none. refl) (a.vbs n v))

  pub consumer_rests : ((m : ℕ) → node_known r' m ≡ node_known r m) → (r'.disk_at (consumer_node link) link.consumer.dialed.vb).there ≡ (r.disk_at (consumer_node link) link.consumer.dialed.vb).there
      → ((x : PlainLink) → IsLink x w'.links → EndsUp w' x) → RestsIn w' r' c'
  consumer_rests = role_rests busy w w' r r' c c' l link fv fv' links a found known follows became (others_taken taken) other_vb changed agrees disk

  -- a vBucket that follows has no stream of a client
  consumer_conns : ConnsKept Every w w' r r'
  consumer_conns = only_kept Every w w' r r' (consumer_node link) link.consumer.dialed.vb
      (changed_only w w' r r' (consumer_node link) link.consumer.dialed.vb fv' links became taken.clients taken.tree taken.rows)
      (λ d id left has. goes_follower (spot_at w r (consumer_node link) link.consumer.dialed.vb) (spot_at w' r' (consumer_node link) link.consumer.dialed.vb) id fv known (no_writer fv.role follows))

  -- nor does it owe anything
  consumer_owed : Owed w' r'
  consumer_owed = every_owed w w' r r' consumer_conns taken.last
      (fewer_at w w' (consumer_node link) link.consumer.dialed.vb became.there (subst (Fewer (vb_of w (consumer_node link) link.consumer.dialed.vb)) (sym became.here)
      (fewer_idle (vb_of w (consumer_node link) link.consumer.dialed.vb) fv' agrees.sound follows'))) a.clients.owed

pub carries_consumer : (busy busy' : Busy) (w w' : PlainWorld) (r r' : Chronicle) (c c' : Cluster) (l : ℕ) (link link' : PlainLink) (fv fv' : Plain)
    → AgreesIn busy w r c → row_at link_number l w.links ≡ Some link → SameEnds link link'
    → vb_of w (consumer_node link) link.consumer.dialed.vb ≡ Some fv → is_follower fv.role ≡ true → is_follower fv'.role ≡ true
    → Became w w' (consumer_node link) link.consumer.dialed.vb fv' l link' → NoNewStream link link'
    → TakenOf l (consumer_node link) link.consumer.dialed.vb r r' → MemberChanged (consumer_seat link) c c' → SoundCluster top c' → BusyBut l busy busy'
    → VbAgrees r' (consumer_node link) link.consumer.dialed.vb (c'.nodes (consumer_seat link)) fv'
    → DiskIsIf (r'.disk_at (consumer_node link) link.consumer.dialed.vb) (c'.disks (consumer_seat link)) (shelf_of w' (consumer_node link) link.consumer.dialed.vb) (Some fv')
    → RestsIn w' r' c' → LinkAgrees w' r' c' link' (busy' l).0 (busy' l).1 → AgreesIn busy' w' r' c'
carries_consumer busy busy' w w' r r' c c' l link link' fv fv' a found same known follows follows' became less taken changed sound but vb disk rests agrees =
    let links = row_put link_number l link' w.links in let others = other_vb busy w w' r r' c c' l link fv fv' links a found known follows follows' became taken changed vb disk in
    carried busy busy' w w' r r' c c' l link link' a found same
    (consumer_vbs busy w w' r r' c c' l link fv fv' links a found known follows became (others_taken taken) others changed vb disk)
    (consumer_disks busy w w' r r' c c' l link fv fv' links a found known follows became (others_taken taken) others changed vb disk)
    changed.tree taken.tree became.uuids became.linked sound but
    (consumer_other busy w w' r r' c c' l link fv fv' links a found known follows became (others_taken taken) others changed vb disk)
    (λ y i d v id s. d.stream v id (less v id s))
    (consumer_conns busy w w' r r' c c' l link fv fv' links a found known follows follows' became taken changed vb disk) (λ v id s. inl (less v id s))
    rests
    agrees
    (consumer_owed busy w w' r r' c c' l link fv fv' links a found known follows follows' became taken changed vb disk)

-- a step with which the link is over; it has no stream that is open
pub carries_left : (busy busy' : Busy) (w w' : PlainWorld) (r r' : Chronicle) (c c' : Cluster) (l : ℕ) (link : PlainLink) (fv fv' : Plain)
    → AgreesIn busy w r c → row_at link_number l w.links ≡ Some link → vb_of w (consumer_node link) link.consumer.dialed.vb ≡ Some fv → is_follower fv.role ≡ true → is_follower fv'.role ≡ true
    → Changed w w' (consumer_node link) link.consumer.dialed.vb fv' (row_out link_number (link_number link) w.links)
    → TakenOf l (consumer_node link) link.consumer.dialed.vb r r' → MemberChanged (consumer_seat link) c c' → SoundCluster top c' → BusyBut l busy busy'
    → VbAgrees r' (consumer_node link) link.consumer.dialed.vb (c'.nodes (consumer_seat link)) fv'
    → DiskIsIf (r'.disk_at (consumer_node link) link.consumer.dialed.vb) (c'.disks (consumer_seat link)) (shelf_of w' (consumer_node link) link.consumer.dialed.vb) (Some fv') → RestsIn w' r' c' → AgreesIn busy' w' r' c'
carries_left busy busy' w w' r r' c c' l link fv fv' a found known follows follows' became taken changed sound but vb disk rests =
    let links = row_out link_number (link_number link) w.links in let others = other_vb busy w w' r r' c c' l link fv fv' links a found known follows follows' became taken changed vb disk in
    left_out busy busy' w w' r r' c c' l link a found taken.tree changed.tree sound but
    (consumer_vbs busy w w' r r' c c' l link fv fv' links a found known follows became (others_taken taken) others changed vb disk)
    (consumer_disks busy w w' r r' c c' l link fv fv' links a found known follows became (others_taken taken) others changed vb disk) became.uuids became.linked
    (consumer_other busy w w' r r' c c' l link fv fv' links a found known follows became (others_taken taken) others changed vb disk)
    (consumer_conns busy w w' r r' c c' l link fv fv' links a found known follows follows' became taken changed vb disk) rests
    (consumer_owed busy w w' r r' c c' l link fv fv' links a found known follows follows' became taken changed vb disk)
