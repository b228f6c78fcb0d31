-- a step of one client's connection, and what it leaves of all else
use Rattle.std.specs.Prelude.{◌≡◌, ◌⊎◌, ◌∷◌, if◌then◌else◌}
use Rattle.transcript_law.proofs.Words.{ℕ, true, List, [], refl, ap, sym, ◌∙◌, subst, arith, ⊎_elim, Some, None, eq-eqb, ne_eqb, Cluster, Plain, is_active, stream_at, row_at, StreamName, Member}
use Rattle.transcript_law.proofs.Words.{PlainLink, link_number, producer_node, consumer_node, PlainWorld, Chronicle}
use Rattle.node_core.specs.Clients.{PlainClient}
use Rattle.transcript_law.proofs.disks.Disks.{SameParts, disk_same, parts_of, same_parts}
use Rattle.transcript_law.proofs.invariant.Agreement.{clock_of, AgreesAt, AgreesIn, ClientAgrees, ClientsApart, ClientsTold, IsLink, LinkAgrees, LinksDiffer, PowerIsIf, RestsIn, idle, power_of, producer_seat, shelf_of, vb_of}
use Rattle.transcript_law.proofs.invariant.Carried.{KeptVb, StaysProducer, as_near, branches_again, fed_same, ids_same, kept_same, kept_streams, link_carried, places, vb_carried}
use Rattle.transcript_law.proofs.invariant.Carrying.{StreamsChanged, off_of}
use Rattle.transcript_law.proofs.invariant.ClientsKept.{GoesOver, agrees_over, fewer_now, fewer_streams, goes_same, goes_still, spot_at}
use Rattle.transcript_law.proofs.invariant.LinkRows.{differ_in}
use Rattle.transcript_law.proofs.invariant.Owed.{OneOwed, Owed, fewer_same}
use Rattle.transcript_law.proofs.invariant.Resting.{ends_off, rests_with}
use Rattle.transcript_law.proofs.invariant.Seats.{seat}
use Rattle.transcript_law.specs.Feeding.{HasFed, HasOpen, client_in}
use Rattle.transcript_law.specs.StreamsTold.{ClientKnown, ClientsKnown}
use Rattle.vb_events.specs.declared.event.StreamName.TheVariants as name
use Rattle.transcript_law.proofs.invariant.Owing.{later_same}

-- the vBucket q of the node m changed its stream of one number alone, which is of no link and of no client but c
pub record VbStep (w w' : PlainWorld) (n c m q : ℕ) : Type 0 where
  pub id : ℕ
  pub pv : Plain
  pub pv' : Plain
  pub at : m ≡ n
  pub before : vb_of w m q ≡ Some pv
  pub after : vb_of w' m q ≡ Some pv'
  pub changed : StreamsChanged id pv pv'
  pub free_links : (x : PlainLink) → IsLink x w.links → producer_node x ≡ n → HasOpen q id x.server.streams → ⊥
  pub free_clients : (d : ℕ) (client : PlainClient) → (d ≡ c → ⊥) → client_in (w.nodes n) d ≡ Some client → HasOpen q id client.producer.streams → ⊥

-- the world after a step of the connection c of the node n: that connection is another one, and each vBucket is as it was but for such a stream
pub record ClientStep (w w' : PlainWorld) (n c : ℕ) : Type 0 where
  pub powers : (m : ℕ) → power_of w' m ≡ power_of w m
  pub vbs : (m q : ℕ) → (vb_of w' m q ≡ vb_of w m q) ⊎ VbStep w w' n c m q
  pub shelves : (m q : ℕ) → shelf_of w' m q ≡ shelf_of w m q
  pub uuids : w'.uuids ≡ w.uuids
  pub linked : w'.links ≡ w.links
  pub others : (m d : ℕ) → (m ≡ n → d ≡ c → ⊥) → client_in (w'.nodes m) d ≡ client_in (w.nodes m) d

-- what is known with this of all clients
abbrev pub known_with : Chronicle → ClientsKnown → Chronicle
known_with r known = record r { clients_at = known }

-- ---- no stream of a client is another's

-- a link is found under its number
pub found_link : (links : List PlainLink) (x : PlainLink) → LinksDiffer links → IsLink x links → row_at link_number (link_number x) links ≡ Some x
found_link [] x d i = absurd i
found_link (z ∷ zs) x d i = ⊎_elim
    (λ e. ap (λ b. if b then Some z else row_at link_number (link_number x) zs) (eq-eqb (link_number z) (link_number x) (ap link_number (sym e))) ∙ ap Some (sym e))
    (λ k. ap (λ b. if b then Some z else row_at link_number (link_number x) zs) (ne_eqb (link_number z) (link_number x) (differ_in z x zs d.0 k).number) ∙ found_link zs x d.1 k) i

not_client : (l n c : ℕ) → name.Link l ≡ name.Client n c → ⊥
not_client l n c e = cc

same_number : (n m d c : ℕ) → name.Client n d ≡ name.Client m c → d ≡ c
same_number n m d c e = cc

module _ (w : PlainWorld) (n c v id : ℕ) (apart : ClientsApart w) (has : HasFed w (name.Client n c) n v id) where
  pub no_link : (x : PlainLink) → LinksDiffer w.links → IsLink x w.links → producer_node x ≡ n → HasOpen v id x.server.streams → ⊥
  no_link x differ i at has_it = not_client (link_number x) n c (apart n c v id (name.Link (link_number x)) has (x, found_link w.links x differ i, record { producer = at; stream = has_it }))

  pub no_other : (d : ℕ) (client : PlainClient) → (d ≡ c → ⊥) → client_in (w.nodes n) d ≡ Some client → HasOpen v id client.producer.streams → ⊥
  no_other d client ne there has_it = ne (same_number n n d c (apart n c v id (name.Client n d) has (refl, (client, there, has_it))))

-- ---- all that agrees beside clients

module _ (w w' : PlainWorld) (r : Chronicle) (cl : Cluster) (n c : ℕ) (step : ClientStep w w' n c) (a : AgreesIn idle w r cl) where
  abbrev member : ℕ → ℕ → Member
  member m q = cl.nodes (seat m q)

  vb_agrees : (m q : ℕ) → AgreesAt r m q (member m q) (vb_of w' m q)
  vb_agrees m q = ⊎_elim
      (λ e. subst (AgreesAt r m q (member m q)) (sym e) (a.vbs m q))
      (λ x. subst (AgreesAt r m q (member m q)) (sym x.after)
      (vb_carried r r m q (member m q) (member m q) (record { tree = refl; writer_of = λ u. refl; row = refl }) (fed_same (member m q)) x.id x.pv x.pv' x.changed (subst (AgreesAt r m q (member m q)) x.before (a.vbs m q))))
      (step.vbs m q)

  parts : (m q : ℕ) → SameParts (vb_of w m q) (vb_of w' m q)
  parts m q = ⊎_elim
      (λ e. subst (SameParts (vb_of w m q)) (sym e) (same_parts (vb_of w m q)))
      (λ x. subst (λ o. SameParts o (vb_of w' m q)) (sym x.before) (subst (SameParts (Some x.pv)) (sym x.after) (ap parts_of x.changed.alone)))
      (step.vbs m q)

  follower : (m q : ℕ) (fv : Plain) → vb_of w m q ≡ Some fv → (fv' : Plain) × (vb_of w' m q ≡ Some fv') × KeptVb fv fv'
  follower m q fv e = ⊎_elim (λ s. (fv, s ∙ e, kept_same fv))
      (λ x. let is : Some x.pv ≡ Some fv = sym x.before ∙ e in let same : x.pv ≡ fv = cc in (x.pv', x.after, subst (λ k. KeptVb k x.pv') same (kept_streams x.id x.pv x.pv' x.changed))) (step.vbs m q)

  stays : (x : PlainLink) → IsLink x w.links
      → StaysProducer (vb_of w (producer_node x) x.consumer.dialed.vb) (vb_of w' (producer_node x) x.consumer.dialed.vb) (cl.nodes (producer_seat x)) (cl.nodes (producer_seat x)) x
  stays x i p k s there feeds opened has = ⊎_elim (λ e. (p, e ∙ there, refl, opened, refl, λ dead. refl, as_near))
      (λ y.
      let is : Some p ≡ Some y.pv = sym there ∙ y.before in let same : p ≡ y.pv = cc in (
        y.pv',
        y.after,
        ap (λ (z : Plain). z.role) y.changed.alone ∙ ap (λ (z : Plain). z.role) (sym same),
        y.changed.others k (λ e. y.free_links x i y.at (subst (λ j. HasOpen x.consumer.dialed.vb j x.server.streams) e has)) ∙ subst (λ (z : Plain). stream_at k z.streams ≡ Some s) same opened,
        refl,
        λ dead. refl,
        as_near,
      ))
      (step.vbs (producer_node x) x.consumer.dialed.vb)

  link_agrees : (x : PlainLink) → IsLink x w.links → LinkAgrees w' r cl x [] []
  link_agrees x i = link_carried w w' r r cl cl x [] [] (λ fv e. follower (consumer_node x) x.consumer.dialed.vb fv e) refl refl refl refl refl (stays x i) (a.links x i)

  absent : (m q : ℕ) → vb_of w' m q ≡ None → vb_of w m q ≡ None
  absent m q none = ⊎_elim (λ e. sym e ∙ none) (λ x. let z : Some x.pv' ≡ None = sym x.after ∙ none in cc) (step.vbs m q)

  stays_absent : (m q : ℕ) → vb_of w m q ≡ None → vb_of w' m q ≡ None
  stays_absent m q none = ⊎_elim (λ e. e ∙ none) (λ x. let z : Some x.pv ≡ None = sym x.before ∙ none in cc) (step.vbs m q)

  rests : RestsIn w' r cl
  rests = rests_with w w' r r cl cl a.rests (λ m. ap off_of (step.powers m)) (λ m. subst (PowerIsIf (r.arm_at m)) (sym (step.powers m)) (a.powers m)) (λ m. a.clocks m ∙ sym (ap clock_of (step.powers m)))
      (λ m q none. record { vb = absent m q none; shelf = step.shelves m q; row = refl; member = refl; disk = refl })
      (λ m q down. (stays_absent m q ((a.downs m q).vb_none down), step.shelves m q ∙ (a.downs m q).shelf_none down))
      (λ m q e. e)
      (λ x i. ends_off w w' x x (λ m. ap off_of (step.powers m)) (record { dialed = refl; desk = refl }) (a.ends x (subst (IsLink x) step.linked i)))

  -- where clients' connections agree, all does
  pub client_carried : (known : ClientsKnown) → ClientsTold w' (known_with r known) → AgreesIn idle w' (known_with r known) cl
  client_carried known told = record {
    sound = a.sound;
    vbs = vb_agrees;
    disks = λ m q. disk_same (vb_of w m q) (vb_of w' m q) refl refl (step.shelves m q) (parts m q) (a.disks m q);
    branches = branches_again refl refl (ids_same step.uuids) a.branches;
    links = λ x i. let l = link_agrees x (subst (IsLink x) step.linked i) in record { follower = l.follower; follower_is = l.follower_is; follows = l.follows; dial = l.dial; acks = l.acks; talk = l.talk };
    differ = subst LinksDiffer (sym step.linked) a.differ;
    clients = told;
    rests = record { powers = rests.powers; clocks = rests.clocks; aways = rests.aways; downs = rests.downs; ends = rests.ends; small = rests.small };
  }

-- ---- connections of clients

module _ (w w' : PlainWorld) (r : Chronicle) (known : ClientsKnown) (n c : ℕ) (step : ClientStep w w' n c) (told : ClientsTold w r) (others : (m d : ℕ) → (m ≡ n → d ≡ c → ⊥) → known m d ≡ r.clients_at m d) where
  abbrev r' : Chronicle
  r' = known_with r known

  -- another connection's open stream stays
  goes : (m d v id : ℕ) (client : PlainClient) → (m ≡ n → d ≡ c → ⊥) → client_in (w.nodes m) d ≡ Some client → HasOpen v id client.producer.streams → GoesOver (spot_at w r m v) (spot_at w' r' m v) id
  goes m d v id client ne there has = ⊎_elim
      (λ e. goes_same (spot_at w r m v) (spot_at w' r' m v) id (λ i. record { tree = r.tree; on = r.branch_at m v; held = r.held m v; pv = e i }))
      (λ x. goes_still (spot_at w r m v) (spot_at w' r' m v) id x.pv x.pv' x.before x.after
      (record { active = ap (λ (z : Plain). is_active z.role) x.changed.alone; at = let same : x.pv'.position.at ≡ x.pv.position.at = ap (λ (z : Plain). z.position.at) x.changed.alone in omega (arith, same); stream = x.changed.others id (λ e. x.free_clients d client (ne x.at) (ap (λ k. client_in (w.nodes k) d) (sym x.at) ∙ there) (subst (λ j. HasOpen v j client.producer.streams) e has)) })
      refl (λ y i. i) (λ u e. refl))
      (step.vbs m v)

  -- nothing is owed that was not, and all other connections wait as they did
  pub step_one : OneOwed w w' r r' n c
  step_one = record {
    later = later_same _ _ refl refl;
    fewer = λ m q. ⊎_elim (λ e. fewer_same (vb_of w m q) (vb_of w' m q) e) (λ x. fewer_now w w' m q x.pv x.pv' x.before x.after (fewer_streams x.id x.pv x.pv' x.changed)) (step.vbs m q);
    others = step.others;
    known = λ m d ne. ap (λ (k : ClientKnown). k.asking) (others m d ne);
  }

  -- the connection itself, and the others
  pub clients_told : ((client : PlainClient) → client_in (w'.nodes n) c ≡ Some client → ClientAgrees w' r' n c client) → ClientsApart w' → Owed w' r' → ClientsTold w' r'
  clients_told own apart owed = record {
    each = λ m d client e. ⊎_elim
        (λ s. subst (λ k. ClientAgrees w' r' k d client) (sym s.0) (subst (λ k. ClientAgrees w' r' n k client) (sym s.1) (own client (ap (λ k. client_in (w'.nodes k) c) (sym s.0) ∙ ap (client_in (w'.nodes m)) (sym s.1) ∙ e))))
        (λ ne. let there = sym (step.others m d ne) ∙ e in agrees_over w w' r r' m d client (others m d ne) (λ v id has. goes m d v id client ne there has) (told.each m d client there))
        (places n c m d);
    apart = apart;
    owed = owed;
  }

-- no connection has an open stream that it had not
module _ (w w' : PlainWorld) (n c : ℕ) (step : ClientStep w w' n c) (less : (client : PlainClient) → client_in (w'.nodes n) c ≡ Some client → (v id : ℕ) → HasOpen v id client.producer.streams → HasFed w (name.Client n c) n v id) where
  pub fed_less : (who : StreamName) (m q id : ℕ) → HasFed w' who m q id → HasFed w who m q id
  fed_less (name.Link l) m q id (x, is, of) = (x, ap (row_at link_number l) (sym step.linked) ∙ is, of)
  fed_less (name.Client k d) m q id (e, (client, there, has)) = ⊎_elim
      (λ s. let f = less client (ap (λ j. client_in (w'.nodes j) c) (sym s.0) ∙ ap (client_in (w'.nodes m)) (sym s.1) ∙ there) q id has in
      (e, (f.1.0, ap (λ j. client_in (w.nodes j) d) s.0 ∙ ap (client_in (w.nodes n)) s.1 ∙ f.1.1, f.1.2)))
      (λ ne. (e, (client, sym (step.others m d ne) ∙ there, has))) (places n c m d)

  pub apart_less : ClientsApart w → ClientsApart w'
  apart_less apart m d v id who has other = apart m d v id who (fed_less (name.Client m d) m v id has) (fed_less who m v id other)
