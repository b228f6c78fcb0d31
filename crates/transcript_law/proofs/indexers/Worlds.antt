-- the world in the middle of what happens in a client's connection: its node has these vBuckets, and the connection is this
use Rattle.std.specs.Prelude.{◌≡◌, ◌⊎◌, ◌==◌, if◌then◌else◌}
use Rattle.transcript_law.proofs.Words.{ℕ, Bool, true, false, refl, ap, sym, ◌∙◌, subst, inl, inr, ⊎_elim, Option, Some, eq-eqb, eqb-true, Plain, States, PlainNode, PlainWorld, with_node_at, with_client, with_states, vb_in, shelf_in, Cluster, Chronicle, PlainLink, producer_node}
use Rattle.node_core.specs.Clients.{PlainClient}
use Rattle.transcript_law.proofs.disks.Disks.{power_in}
use Rattle.transcript_law.proofs.invariant.{Agreement.{AgreesIn, IsLink, LinksDiffer, idle, shelf_of, vb_of}, Carried.{all_there, numbers, places}, Carrying.{StreamsChanged}, ClientsKept.{FewNew, IsFree, apart_over}, ClientsTold.{ClientAgrees}, Owed.{ConnOwed, Owed, WaitsOn, owed_await, owed_one}, Tables.{at_here, at_there}}
use Rattle.transcript_law.proofs.indexers.{Steps.{ClientStep, VbStep, client_carried, clients_told, step_one, found_link, no_link, no_other}}
use Rattle.transcript_law.specs.{Feeding.{HasFed, HasOpen, client_in}, StreamsTold.{ClientKnown, with_at}}
use Rattle.vb_events.specs.declared.event.StreamName.{StreamName}
use Rattle.vb_events.specs.declared.event.StreamName.TheVariants as name
use Rattle.transcript_law.specs.LinesTold.{LastLine}

module _ (w : PlainWorld) (n c : ℕ) (node : PlainNode) where
  abbrev pub node_with : States → Option PlainClient → PlainNode
  node_with states o = with_client (with_states node states) c o

  abbrev pub world_with : States → Option PlainClient → PlainWorld
  world_with states o = with_node_at w n (node_with states o)

  -- the connection is the one that was put, and each other one is as it was
  pub client_here : (states : States) (o : Option PlainClient) → client_in ((world_with states o).nodes n) c ≡ o
  client_here states o =
      ap (λ b. client_in (if b then Some (node_with states o) else w.nodes n) c) (eq-eqb n n refl) ∙ ap (λ b. if b then o else node.clients c) (eq-eqb c c refl)

  pub client_there : (states states' : States) (o o' : Option PlainClient) (m d : ℕ) → (m ≡ n → d ≡ c → ⊥) → client_in ((world_with states' o').nodes m) d ≡ client_in ((world_with states o).nodes m) d
  client_there states states' o o' m d other = by (m == n) refl
    where
      at : (b : Bool) → (d == c) ≡ b → (m ≡ n) → (if b then o' else node.clients d) ≡ (if b then o else node.clients d)
      at true e same = absurd (other same (eqb-true d c e))
      at false e same = refl

      by : (b : Bool) → (m == n) ≡ b → client_in (if b then Some (node_with states' o') else w.nodes m) d ≡ client_in (if b then Some (node_with states o) else w.nodes m) d
      by true e = at (d == c) refl (eqb-true m n e)
      by false e = refl

  -- its vBuckets, and all others
  pub vb_here : (states : States) (o : Option PlainClient) (q : ℕ) → vb_of (world_with states o) n q ≡ states q
  vb_here states o q = ap (λ b. vb_in (if b then Some (node_with states o) else w.nodes n) q) (eq-eqb n n refl)

  -- what no step of the connection changes
  same_power : (states states' : States) (o o' : Option PlainClient) (m : ℕ) → power_in ((world_with states' o').nodes m) ≡ power_in ((world_with states o).nodes m)
  same_power states states' o o' m = elim (m == n) as (λ b. power_in (if b then Some (node_with states' o') else w.nodes m) ≡ power_in (if b then Some (node_with states o) else w.nodes m)) [ true ↦ refl | false ↦ refl ]

  same_shelf : (states states' : States) (o o' : Option PlainClient) (m q : ℕ) → shelf_of (world_with states' o') m q ≡ shelf_of (world_with states o) m q
  same_shelf states states' o o' m q = elim (m == n) as (λ b. shelf_in (if b then Some (node_with states' o') else w.nodes m) q ≡ shelf_in (if b then Some (node_with states o) else w.nodes m) q) [ true ↦ refl | false ↦ refl ]

  -- no vBucket changed
  pub step_quiet : (states states' : States) (o o' : Option PlainClient) → ((q : ℕ) → states' q ≡ states q) → ClientStep (world_with states o) (world_with states' o') n c
  step_quiet states states' o o' same = record {
    powers = same_power states states' o o';
    vbs = λ m q. inl (elim (m == n) as (λ b. vb_in (if b then Some (node_with states' o') else w.nodes m) q ≡ vb_in (if b then Some (node_with states o) else w.nodes m) q) [ true ↦ same q | false ↦ refl ]);
    shelves = same_shelf states states' o o';
    uuids = refl;
    linked = refl;
    others = client_there states states' o o';
  }

  -- nobody else has a stream of this number open at the vBucket
  pub record IsOwn (world : PlainWorld) (v id : ℕ) : Type 0 where
    pub links : (x : PlainLink) → IsLink x world.links → producer_node x ≡ n → HasOpen v id x.server.streams → ⊥
    pub clients : (d : ℕ) (client : PlainClient) → (d ≡ c → ⊥) → client_in (world.nodes n) d ≡ Some client → HasOpen v id client.producer.streams → ⊥

  -- one vBucket did, at such a number
  pub step_at : (states states' : States) (o o' : Option PlainClient) (v id : ℕ) (pv pv' : Plain) → states v ≡ Some pv → states' v ≡ Some pv' → ((q : ℕ) → (q ≡ v → ⊥) → states' q ≡ states q)
      → StreamsChanged id pv pv' → IsOwn (world_with states o) v id → ClientStep (world_with states o) (world_with states' o') n c
  step_at states states' o o' v id pv pv' before after there changed own = record {
    powers = same_power states states' o o';
    vbs = λ m q. by m q (m == n) refl;
    shelves = same_shelf states states' o o';
    uuids = refl;
    linked = refl;
    others = client_there states states' o o';
  }
    where
      here : (m : ℕ) → m ≡ n → VbStep (world_with states o) (world_with states' o') n c m v
      here m e = record {
        id = id;
        pv = pv;
        pv' = pv';
        at = e;
        before = ap (λ k. vb_of (world_with states o) k v) e ∙ vb_here states o v ∙ before;
        after = ap (λ k. vb_of (world_with states' o') k v) e ∙ vb_here states' o' v ∙ after;
        changed = changed;
        free_links = own.links;
        free_clients = own.clients;
      }

      by : (m q : ℕ) (b : Bool) → (m == n) ≡ b → (vb_of (world_with states' o') m q ≡ vb_of (world_with states o) m q) ⊎ VbStep (world_with states o) (world_with states' o') n c m q
      by m q false e =
          inl (ap (λ b. vb_in (if b then Some (node_with states' o') else w.nodes m) q) e ∙ sym (ap (λ b. vb_in (if b then Some (node_with states o) else w.nodes m) q) e))
      by m q true e = ⊎_elim
          (λ s. inr (subst (λ k. VbStep (world_with states o) (world_with states' o') n c m k) (sym s) (here m (eqb-true m n e))))
          (λ ne. inl (ap (λ k. vb_of (world_with states' o') k q) (eqb-true m n e) ∙ vb_here states' o' q ∙ there q ne ∙ sym (vb_here states o q) ∙ sym (ap (λ k. vb_of (world_with states o) k q) (eqb-true m n e))))
          (numbers q v)

  -- a number that is nobody's, or an open one of this connection
  pub free_own : (world : PlainWorld) → LinksDiffer world.links → (v id : ℕ) → ((who : StreamName) → HasFed world who n v id → ⊥) → IsOwn world v id
  free_own world differ v id free = record {
    links = λ x i at has. free (name.Link _) (x, found_link world.links x differ i, record { producer = at; stream = has });
    clients = λ d client ne there has. free (name.Client n d) (refl, (client, there, has));
  }

  pub open_own : (world : PlainWorld) (r : Chronicle) (k : Cluster) → AgreesIn idle world r k → (v id : ℕ) → HasFed world (name.Client n c) n v id → IsOwn world v id
  open_own world r k a v id has = record {
    links = λ x i at had. no_link world n c v id a.clients.apart has x a.differ i at had;
    clients = λ d client ne there had. no_other world n c v id a.clients.apart has d client ne there had;
  }

  -- what became of the connection
  module _ (states states' : States) (client client' : PlainClient) (r : Chronicle) (known : ClientKnown) (k : Cluster) (a : AgreesIn idle (world_with states (Some client)) r k)
      (step : ClientStep (world_with states (Some client)) (world_with states' (Some client')) n c) where
    abbrev old : PlainWorld
    old = world_with states (Some client)

    abbrev new : PlainWorld
    new = world_with states' (Some client')

    -- what is known then
    abbrev pub with_known : Chronicle
    with_known = record r { clients_at = with_at r.clients_at n c known }

    -- each open stream of this client was open, or its number was free
    abbrev pub OpensOwn : Type 0
    OpensOwn = (v id : ℕ) → HasOpen v id client'.producer.streams → HasOpen v id client.producer.streams ⊎ IsFree id (vb_of old n v)

    -- the connection that was put is the one that is found
    is_new : (m d : ℕ) (other : PlainClient) → m ≡ n → d ≡ c → client_in (new.nodes m) d ≡ Some other → other ≡ client'
    is_new m d other s t is =
        let it : Some other ≡ Some client' = sym is ∙ ap (λ y. client_in (new.nodes y) d) s ∙ ap (client_in (new.nodes n)) t ∙ client_here states' (Some client') in cc

    was_had : OpensOwn → FewNew (name.Client n c) old new
    was_had opens (name.Link l) m v id fed = inl fed
    was_had opens (name.Client m d) x v id (same, (other, is, has)) = ⊎_elim
        (λ s.
        let one : other ≡ client' = is_new x d other (sym same ∙ s.0) s.1 is in
        let at : n ≡ x = sym s.0 ∙ same in
        ⊎_elim
        (λ had. inl (same, (client, ap (λ y. client_in (old.nodes y) d) (sym at) ∙ ap (client_in (old.nodes n)) s.1 ∙ client_here states (Some client), had)))
        (λ free. inr ((λ i. name.Client (s.0 i) (s.1 i)), subst (λ y. IsFree id (vb_of old y v)) at free))
        (opens v id (subst (λ (p : PlainClient). HasOpen v id p.producer.streams) one has)))
        (λ o. inl (same, (other, sym (client_there states states' (Some client) (Some client') x d (λ e f. o (same ∙ e) f)) ∙ is, has)))
        (places n c m d)

    -- what it waits for is owed as it was
    pub waited : WaitsOn (r.clients_at n c).asking known.asking client.session client'.session → Owed new with_known
    waited waits =
        let table = with_at r.clients_at n c known in
        owed_one old new r with_known n c (step_one old new r table n c step a.clients (λ m d o. at_there r.clients_at n c known m d o)) client client' (client_here states (Some client)) (client_here states' (Some client'))
        (subst (λ (t : ClientKnown). WaitsOn (r.clients_at n c).asking t.asking client.session client'.session) (sym (at_here r.clients_at n c known)) waits) a.clients.owed

    -- or it waits for something else
    pub waited_else : client'.session.who ≡ client.session.who → ((line : LastLine) → r.last ≡ Some line → ConnOwed line n c r.made (vb_of old n) (r.clients_at n c).asking client.session → ConnOwed line n c r.made (vb_of new n) known.asking client'.session) → Owed new with_known
    waited_else who goes =
        let table = with_at r.clients_at n c known in
        owed_await old new r with_known n c (step_one old new r table n c step a.clients (λ m d o. at_there r.clients_at n c known m d o)) client client' (client_here states (Some client)) (client_here states' (Some client')) who
        (λ line rises x. subst (λ (t : ClientKnown). ConnOwed line n c r.made (vb_of new n) t.asking client'.session) (sym (at_here r.clients_at n c known)) (goes line rises x)) a.clients.owed

    pub stepped : OpensOwn → ClientAgrees new with_known n c client' → Owed new with_known → AgreesIn idle new with_known k
    stepped opens mine owed =
        let table = with_at r.clients_at n c known in
        client_carried old new r k n c step a table
        (clients_told old new r table n c step a.clients (λ m d o. at_there r.clients_at n c known m d o)
        (λ other is. subst (ClientAgrees new with_known n c) (sym (is_new n c other refl refl is)) mine)
        (apart_over (name.Client n c) old new (all_there idle old r k a) (was_had opens) a.clients.apart) owed)

  -- as much is known as before
  module _ (states states' : States) (client client' : PlainClient) (r : Chronicle) (k : Cluster) (a : AgreesIn idle (world_with states (Some client)) r k)
      (step : ClientStep (world_with states (Some client)) (world_with states' (Some client')) n c) where
    known_same : with_at r.clients_at n c (r.clients_at n c) ≡ r.clients_at
    known_same i m d = same m d i
      where
        same : (m d : ℕ) → with_at r.clients_at n c (r.clients_at n c) m d ≡ r.clients_at m d
        same m d = ⊎_elim
            (λ s. ap (λ x. with_at r.clients_at n c (r.clients_at n c) x d) s.0 ∙ ap (with_at r.clients_at n c (r.clients_at n c) n) s.1 ∙ at_here r.clients_at n c (r.clients_at n c)
            ∙ sym (ap (λ x. r.clients_at x d) s.0 ∙ ap (r.clients_at n) s.1))
            (λ o. at_there r.clients_at n c (r.clients_at n c) m d o)
            (places n c m d)

    -- what it waits for
    pub waited_same : WaitsOn (r.clients_at n c).asking (r.clients_at n c).asking client.session client'.session → Owed (world_with states' (Some client')) r
    waited_same waits = subst (λ t. Owed (world_with states' (Some client')) (record r { clients_at = t })) known_same (waited states states' client client' r (r.clients_at n c) k a step waits)

    pub waited_else_same : client'.session.who ≡ client.session.who → ((line : LastLine) → r.last ≡ Some line → ConnOwed line n c r.made (vb_of (world_with states (Some client)) n) (r.clients_at n c).asking client.session → ConnOwed line n c r.made (vb_of (world_with states' (Some client')) n) (r.clients_at n c).asking client'.session)
        → Owed (world_with states' (Some client')) r
    waited_else_same who goes = subst (λ t. Owed (world_with states' (Some client')) (record r { clients_at = t })) known_same (waited_else states states' client client' r (r.clients_at n c) k a step who goes)

    pub stepped_same : OpensOwn states states' client client' r (r.clients_at n c) k a step → ClientAgrees (world_with states' (Some client')) r n c client' → Owed (world_with states' (Some client')) r → AgreesIn idle (world_with states' (Some client')) r k
    stepped_same opens mine owed =
        let new : PlainWorld = world_with states' (Some client') in
        subst (λ t. AgreesIn idle new (record r { clients_at = t }) k) known_same
        (stepped states states' client client' r (r.clients_at n c) k a step opens (subst (λ t. ClientAgrees new (record r { clients_at = t }) n c client') (sym known_same) mine) (subst (λ t. Owed new (record r { clients_at = t })) (sym known_same) owed))
