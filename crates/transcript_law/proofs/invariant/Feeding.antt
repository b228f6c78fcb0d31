-- each stream of a vBucket is that of an open link or of a client's connection, also after each line
use Rattle.std.specs.Prelude.{◌≡◌, ◌∷◌, ◌⊎◌, ◌==◌, if◌then◌else◌}
use Rattle.transcript_law.proofs.Words.{ℕ, Bool, true, false, List, [], refl, ap, sym, ◌∙◌, subst, inl, inr, ⊎_elim, filter, list_any, map, ◌&&◌, Option, Some, None, is_some, eqb-true, eqb-false, row_put, States, Cause}
use Rattle.transcript_law.proofs.Words.{PlainLink, link_number, producer_node, PlainNode, PlainWorld, PlainStream, Told, Outcome, AdminCall, AdminResult, with_node_at, with_links, node_outcome, node_if, on_node, unlinked, own_link, cut_off, link_ended, ended_by, ended_in, end_closed}
use Rattle.transcript_law.proofs.Words.{refusal, called_at, no_node, turned_after, turned_if, with_ended, role_outcome}
use Rattle.transcript_law.proofs.{invariant.Agreement.{IsLink}, invariant.Carried.{numbers}, verbs.Leaving.{own_found}, invariant.Numbered.{Numbers, numbers_out, numbers_passed, numbers_put, numbers_told, one_of_number, out_other, passed, put_in, put_other, told_there}}
use Rattle.transcript_law.proofs.{invariant.FedClients.{Conns, Keeps, NodeFed, closed_none, none_fed, posts_keep}, invariant.OpenStreams.{AreKept, kept_went}, invariant.Quiets.{Ends}, invariant.Unopened.{NoNew, either}}
use Rattle.transcript_law.specs.Feeding.{HasIn, HasOpen, IsOf, IsOpenAt}
use Rattle.dcp_producer.proofs.Kept.{ids_of}
use Rattle.node_core.specs.Clients.{PlainClient, client_ended}
use Rattle.node_world.specs.Cuts.{links_ended}
use Rattle.node_world.specs.Nodes.{with_clients_ended}
use Rattle.std.specs.Option.{option_map}
use Rattle.vbucket.specs.Rows.{row_out}
use Rattle.node_core.specs.Admin.{admin_refused}
use Rattle.node_world.specs.{Arms.{fired_by, placed, under_arm}, Cuts.{closed_at}, Nodes.{all_posted, if_up}, Worlds.{arm_in, on_made}}
use Rattle.node_world.specs.Power.{after_broken, after_fire, all_cut, all_unlinked, dropped, is_broken_answer, stopped_node, touches, with_arm, with_broken}
use Rattle.node_world.specs.Turns.{posted_at, posted_in, role_called, turned}
use Rattle.node_world.specs.declared.arm.Fired.{Fired}
use Rattle.node_world.specs.declared.arm.Fired.TheVariants as fired
use Rattle.vb_calls.specs.declared.calls.Resolved.{Resolved}
use Rattle.vb_disk.specs.declared.made.Outcome.{Outcome as Left}

-- one of these links has this stream
abbrev pub Fed : List PlainLink → ℕ → ℕ → ℕ → Type 0
Fed links n v id = (link : PlainLink) × IsLink link links × IsOf n v id link

-- each stream of a node's vBuckets is that of a link, or of a client of the node
abbrev pub AllFed : PlainWorld → Type 0
AllFed w = (n : ℕ) (node : PlainNode) → w.nodes n ≡ Some node → NodeFed (Fed w.links n) node.vbs node.clients

-- the streams of each link's producer are kept
abbrev pub AllKept : PlainWorld → Type 0
AllKept w = (link : PlainLink) → IsLink link w.links → AreKept link.server

-- and no two links have one number
pub record Fine (w : PlainWorld) : Type 0 where
  pub numbers : Numbers w.links
  pub fed : AllFed w

-- ---- a node

some_is : {A : Type 0} (x y : A) → Some x ≡ Some y → x ≡ y
some_is x y e = cc

pub with_node : (w : PlainWorld) (n : ℕ) (node : PlainNode) → AllFed w → NodeFed (Fed w.links n) node.vbs node.clients → AllFed (with_node_at w n node)
with_node w n node fed here m k is = by (m == n) refl is
  where
    by : (b : Bool) → (m == n) ≡ b → (if b then Some node else w.nodes m) ≡ Some k → NodeFed (Fed w.links m) k.vbs k.clients
    by true e q = subst (λ (x : PlainNode). NodeFed (Fed w.links m) x.vbs x.clients) (some_is node k q) (subst (λ l. NodeFed (Fed w.links l) node.vbs node.clients) (sym (eqb-true m n e)) here)
    by false e q = fed m k q

-- one that keeps it so
pub kept_node : (w : PlainWorld) (n : ℕ) (node node' : PlainNode) → AllFed w → w.nodes n ≡ Some node → Keeps node node' → AllFed (with_node_at w n node')
kept_node w n node node' fed known keeps = with_node w n node' fed (keeps (Fed w.links n) (fed n node known))

pub kept_fine : (w : PlainWorld) (n : ℕ) (node node' : PlainNode) → Fine w → w.nodes n ≡ Some node → Keeps node node' → Fine (with_node_at w n node')
kept_fine w n node node' fine known keeps = record { numbers = fine.numbers; fed = kept_node w n node node' fine.fed known keeps }

pub made_fine : (w : PlainWorld) (n : ℕ) (f : PlainNode → PlainNode × Told) → Fine w → ((node : PlainNode) → Keeps node (f node).0) → Fine (on_made w n f).0
made_fine w n f fine keeps = by (w.nodes n) refl
  where
    by : (o : Option PlainNode) → w.nodes n ≡ o → Fine (node_outcome w n (refusal Cause.UnknownNode) o f).0
    by None e = fine
    by (Some node) e = kept_fine w n node (f node).0 fine e (keeps node)

pub node_fine : (w : PlainWorld) (n : ℕ) (f : PlainNode → PlainNode × Told) → Fine w → ((node : PlainNode) → Keeps node (f node).0) → Fine (on_node w n f).0
node_fine w n f fine keeps = made_fine w n (if_up f) fine (λ node others fed. either (λ (x : PlainNode × Told). NodeFed others x.0.vbs x.0.clients) (is_some node.off) (node, refusal Cause.NodeDown) (f node) fed (keeps node others fed))

-- other links, which have the streams of those that were
pub relinked_fed : (others others' : ℕ → ℕ → Type 0) (vbs : States) (clients : Conns) → ((v id : ℕ) → others v id → others' v id) → NodeFed others vbs clients → NodeFed others' vbs clients
relinked_fed others others' vbs clients go fed = record { owned = λ v id h. ⊎_elim (λ o. inl (go v id o)) (λ has. inr has) (fed.owned v id h); kept = fed.kept }

-- ---- a link that goes on

module _ (w : PlainWorld) (link link' : PlainLink) (fine : Fine w) (is : IsLink link w.links) where
  abbrev put_links : List PlainLink
  put_links = row_put link_number (link_number link) link' w.links

  -- of other links, and of this one
  abbrev Others : ℕ → ℕ → ℕ → Type 0
  Others n v id = (x : PlainLink) × IsLink x w.links × (link_number x ≡ link_number link → ⊥) × IsOf n v id x

  split : (n v id : ℕ) → Fed w.links n v id → Others n v id ⊎ IsOf n v id link
  split n v id (x, i, of) = ⊎_elim (λ e. inr (subst (IsOf n v id) (one_of_number w.links x link fine.numbers i is e) of)) (λ ne. inl (x, i, ne, of)) (numbers (link_number x) (link_number link))

  others_put : (n v id : ℕ) → Others n v id → Fed put_links n v id
  others_put n v id (x, i, ne, of) = (x, put_other (link_number link) link' w.links x i ne, of)

  -- its producer did something at its node
  module _ (n : ℕ) (node node' : PlainNode) (at : producer_node link ≡ n) (known : w.nodes n ≡ Some node) (desk : link'.server.desk ≡ link.server.desk)
      (owned : (others : ℕ → ℕ → Type 0) → NodeFed (λ v id. others v id ⊎ HasOpen v id link.server.streams) node.vbs node.clients → NodeFed (λ v id. others v id ⊎ HasOpen v id link'.server.streams) node'.vbs node'.clients) where
    before : NodeFed (λ v id. Others n v id ⊎ HasOpen v id link.server.streams) node.vbs node.clients
    before = relinked_fed (Fed w.links n) (λ v id. Others n v id ⊎ HasOpen v id link.server.streams) node.vbs node.clients (λ v id x. ⊎_elim (λ o. inl o) (λ of. inr of.stream) (split n v id x)) (fine.fed n node known)

    here : NodeFed (Fed put_links n) node'.vbs node'.clients
    here = relinked_fed (λ v id. Others n v id ⊎ HasOpen v id link'.server.streams) (Fed put_links n) node'.vbs node'.clients
        (λ v id x. ⊎_elim (λ o. others_put n v id o) (λ own. (link', put_in (link_number link) link' w.links link is refl, record { producer = ap (λ d. d.node) desk ∙ at; stream = own })) x) (owned (Others n) before)

    there : (m : ℕ) (k : PlainNode) → (m == n) ≡ false → w.nodes m ≡ Some k → NodeFed (Fed put_links m) k.vbs k.clients
    there m k ne q = relinked_fed (Fed w.links m) (Fed put_links m) k.vbs k.clients
        (λ v id x. ⊎_elim (λ o. others_put m v id o) (λ of. absurd (eqb-false m n ne (sym of.producer ∙ at))) (split m v id x)) (fine.fed m k q)

    pub served_fed : AllFed (with_links (with_node_at w n node') put_links)
    served_fed m k q = by (m == n) refl q
      where
        by : (b : Bool) → (m == n) ≡ b → (if b then Some node' else w.nodes m) ≡ Some k → NodeFed (Fed put_links m) k.vbs k.clients
        by true e q = subst (λ (x : PlainNode). NodeFed (Fed put_links m) x.vbs x.clients) (some_is node' k q) (subst (λ l. NodeFed (Fed put_links l) node'.vbs node'.clients) (sym (eqb-true m n e)) here)
        by false e q = there m k e q

  -- it has the same streams
  pub swapped_open : producer_node link' ≡ producer_node link → ((v id : ℕ) → HasOpen v id link.server.streams → HasOpen v id link'.server.streams) → link_number link' ≡ link_number link → Fine (with_links w put_links)
  swapped_open producer streams number = record {
    numbers = numbers_put (link_number link) link' w.links number fine.numbers;
    fed = λ n k q. relinked_fed (Fed w.links n) (Fed put_links n) k.vbs k.clients (λ v id x. ⊎_elim (λ o. others_put n v id o)
        (λ of. (link', put_in (link_number link) link' w.links link is refl, record { producer = producer ∙ of.producer; stream = streams v id of.stream }))
        (split n v id x)) (fine.fed n k q);
  }

  -- its consumer alone is another one
  pub swapped : link'.server ≡ link.server → link_number link' ≡ link_number link → Fine (with_links w put_links)
  swapped server number = swapped_open (ap (λ s. s.desk.node) server) (λ v id has. subst (HasOpen v id) (sym (ap (λ s. s.streams) server)) has) number

-- ---- a link that is over

-- the links without one
module _ (w : PlainWorld) (link : PlainLink) (fine : Fine w) (is : IsLink link w.links) where
  abbrev left_links : List PlainLink
  left_links = row_out link_number (link_number link) w.links

  left_or : (m v id : ℕ) → Fed w.links m v id → Fed left_links m v id ⊎ IsOf m v id link
  left_or m v id (x, i, of) = ⊎_elim (λ e. inr (subst (IsOf m v id) (one_of_number w.links x link fine.numbers i is e) of)) (λ ne. inl (x, out_other (link_number link) w.links x i ne, of)) (numbers (link_number x) (link_number link))

  -- another node
  apart_left : (m : ℕ) (k : PlainNode) → (m ≡ producer_node link → ⊥) → w.nodes m ≡ Some k → NodeFed (Fed left_links m) k.vbs k.clients
  apart_left m k ne q = relinked_fed (Fed w.links m) (Fed left_links m) k.vbs k.clients (λ v id x. ⊎_elim (λ o. o) (λ of. absurd (ne (sym of.producer))) (left_or m v id x)) (fine.fed m k q)

  -- its producer's, where the streams are closed
  closed_left : (node : PlainNode) → w.nodes (producer_node link) ≡ Some node → NodeFed (Fed left_links (producer_node link)) (closed_at link node).vbs (closed_at link node).clients
  unfolding end_closed
  closed_left node known = let fed = fine.fed (producer_node link) node known in record {
    owned = λ v id h. let p = closed_none link.server.streams node.vbs v id h in
        ⊎_elim (λ x. ⊎_elim (λ o. inl o) (λ of. absurd (p.1 of.stream)) (left_or (producer_node link) v id x)) (λ has. inr has) (fed.owned v id p.0);
    kept = fed.kept;
  }

  unlinked_fed : AllFed (unlinked link w)
  unlinked_fed m k q = by (w.nodes (producer_node link)) refl q
    where
      at : (node : PlainNode) → w.nodes (producer_node link) ≡ Some node → (b : Bool) → (m == producer_node link) ≡ b → (if b then Some (closed_at link node) else w.nodes m) ≡ Some k → NodeFed (Fed left_links m) k.vbs k.clients
      at node e true t z = subst (λ (x : PlainNode). NodeFed (Fed left_links m) x.vbs x.clients) (some_is (closed_at link node) k z) (subst (λ l. NodeFed (Fed left_links l) (closed_at link node).vbs (closed_at link node).clients) (sym (eqb-true m (producer_node link) t)) (closed_left node e))
      at node e false t z = apart_left m k (eqb-false m (producer_node link) t) z

      by : (o : Option PlainNode) → w.nodes (producer_node link) ≡ o → (node_if (producer_node link) (closed_at link) w o).nodes m ≡ Some k → NodeFed (Fed left_links m) k.vbs k.clients
      by None e z = apart_left m k (λ same. let none : None ≡ Some k = sym (ap w.nodes same ∙ e) ∙ z in cc) z
      by (Some node) e z = at node e (m == producer_node link) refl z

  pub unlinked_fine : Fine (unlinked link w)
  unlinked_fine = record { numbers = numbers_out (link_number link) w.links fine.numbers; fed = unlinked_fed }

-- the links of a node that stops
cut_fine : (xs : List PlainLink) (w : PlainWorld) → Fine w → Numbers xs → ((x : PlainLink) → IsLink x xs → IsLink x w.links) → Fine (all_unlinked xs w)
cut_fine [] w fine d among = fine
cut_fine (x ∷ xs) w fine d among = cut_fine xs (unlinked x w) (unlinked_fine w x fine (among x (inl refl))) d.1 (λ y j. out_other (link_number x) w.links y (among y (inr j)) (λ e. d.0 y j (sym e)))

pub dropped_fine : (n : ℕ) (out : Left) (w : PlainWorld) → Fine w → Fine (dropped n out w)
dropped_fine n out w fine = by ((all_cut n w).nodes n) refl
  where
    cut_is : Fine (all_cut n w)
    cut_is = cut_fine (filter (touches n) w.links) w fine (numbers_passed (touches n) w.links fine.numbers) (passed (touches n) w.links)

    by : (o : Option PlainNode) → (all_cut n w).nodes n ≡ o → Fine (node_if n (stopped_node out) (all_cut n w) o)
    by None e = cut_is
    by (Some node) e = kept_fine (all_cut n w) n node (stopped_node out node) cut_is e (λ others fed. none_fed others (λ v. None) (λ c. None) (λ v id h. h) (λ c. refl))

fired_fine : (n : ℕ) (out : Left) (f : Fired) (came : Outcome) → Fine came.0 → Fine (after_fire n out f came).0
fired_fine n out fired.No came fine = fine
fired_fine n out fired.Failed came fine = fine
fired_fine n out fired.Stopped came fine = dropped_fine n out came.0 fine

pub armed_fine : (n : ℕ) (before : PlainWorld) (came : Outcome) → Fine came.0 → Fine (with_arm n before came).0
armed_fine n before came fine = fired_fine n (arm_in (before.nodes n)).out (fired_by (arm_in (before.nodes n)).fuse (arm_in (came.0.nodes n)).fuse) came fine

pub broken_fine : (n l : ℕ) (before : PlainWorld) (came : Outcome) → Fine came.0 → Fine (with_broken n l before came).0
broken_fine n l before came fine = either (λ (x : Outcome). Fine x.0) (is_broken_answer came.1.answer) (after_broken n l (arm_in (before.nodes n)).out (fired_by (arm_in (before.nodes n)).fuse (arm_in (came.0.nodes n)).fuse) came) came (at (fired_by (arm_in (before.nodes n)).fuse (arm_in (came.0.nodes n)).fuse)) fine
  where
    at : (f : Fired) → Fine (after_broken n l (arm_in (before.nodes n)).out f came).0
    at fired.No = fine
    at fired.Failed = fine
    at fired.Stopped = dropped_fine n (arm_in (before.nodes n)).out came.0 fine

-- ---- changes of role

posts_in_fine : (n : ℕ) (rs : List Resolved) (o : Outcome) → Fine o.0 → Fine (posted_in n rs o).0
posts_in_fine n rs o fine = by (o.0.nodes n) refl
  where
    by : (k : Option PlainNode) → o.0.nodes n ≡ k → Fine (posted_at n rs o.0 o.1 k).0
    by None e = fine
    by (Some node) e = kept_fine o.0 n node (all_posted rs node).0 fine e (posts_keep rs node)

-- a link that is told which streams ended has its own, if it is of another vBucket
known_of : (n v : ℕ) (ids : List ℕ) (m q id : ℕ) (x : PlainLink) → (m ≡ n → q ≡ v → ⊥) → IsOf m q id x → IsOf m q id (link_ended n v ids x)
known_of n v ids m q id x apart of = by (producer_node x == n) refl
  where
    goes_on : m ≡ n → (streams : List PlainStream) → HasOpen q id streams → HasOpen q id (map (ended_in v ids) streams)
    goes_on same [] h = absurd h
    goes_on same (s ∷ more) h = ⊎_elim (λ o. inl (at o (s.vb == v) refl)) (λ j. inr (goes_on same more j)) h
      where
        at : IsOpenAt q id s → (b : Bool) → (s.vb == v) ≡ b → IsOpenAt q id (if b && list_any (λ i. i == s.id) ids then record s { ended = true } else s)
        at o true e = absurd (apart same (sym o.0 ∙ eqb-true s.vb v e))
        at o false e = o

    by : (b : Bool) → (producer_node x == n) ≡ b → IsOf m q id (if b then record x { server = ended_by v ids x.server } else x)
    by true e = record { producer = of.producer; stream = goes_on (sym of.producer ∙ eqb-true (producer_node x) n e) x.server.streams of.stream }
    by false e = of

-- so does a client
goes_on : (v : ℕ) (ids : List ℕ) (q id : ℕ) → (q ≡ v → ⊥) → (streams : List PlainStream) → HasOpen q id streams → HasOpen q id (map (ended_in v ids) streams)
goes_on v ids q id apart [] h = absurd h
goes_on v ids q id apart (s ∷ more) h = ⊎_elim (λ o. inl (at o (s.vb == v) refl)) (λ j. inr (goes_on v ids q id apart more j)) h
  where
    at : IsOpenAt q id s → (b : Bool) → (s.vb == v) ≡ b → IsOpenAt q id (if b && list_any (λ i. i == s.id) ids then record s { ended = true } else s)
    at o true e = absurd (apart (sym o.0 ∙ eqb-true s.vb v e))
    at o false e = o

-- the numbers of streams that a change of role ended are as they were
ended_ids : (v : ℕ) (ids : List ℕ) (streams : List PlainStream) → ids_of (map (ended_in v ids) streams) ≡ ids_of streams
ended_ids v ids [] = refl
ended_ids v ids (s ∷ more) = λ i. by (s.vb == v && list_any (λ x. x == s.id) ids) i ∷ ended_ids v ids more i
  where
    by : (b : Bool) → (if b then record s { ended = true } else s).id ≡ s.id
    by true = refl
    by false = refl

-- the streams that the vBucket has yet are those of links
module _ (w : PlainWorld) (n v : ℕ) (node node' : PlainNode) (ids : List ℕ) (fine : Fine w) (known : w.nodes n ≡ Some node) (less : NoNew node.vbs node'.vbs) (own : (id : ℕ) → HasIn (node'.vbs v) id → Fed (links_ended n v ids w.links) n v id) (same : (c : ℕ) → node'.clients c ≡ node.clients c) where
  abbrev ended : PlainWorld
  ended = with_ended n v ids (with_node_at w n node')

  abbrev ended_links : List PlainLink
  ended_links = links_ended n v ids w.links

  told_links : (m q id : ℕ) → (m ≡ n → q ≡ v → ⊥) → Fed w.links m q id → Fed ended_links m q id
  told_links m q id apart (x, i, of) = (link_ended n v ids x, told_there n v ids x w.links i, known_of n v ids m q id x apart of)

  -- the node itself
  ended_here : NodeFed (Fed ended_links n) node'.vbs (λ c. option_map (client_ended v ids) (node'.clients c))
  ended_here = let fed = fine.fed n node known in record {
    owned = λ q id h.
        ⊎_elim (λ e. inl (subst (λ u. Fed ended_links n u id) (sym e) (own id (subst (λ u. HasIn (node'.vbs u) id) e h))))
        (λ apart. ⊎_elim (λ x. inl (told_links n q id (λ a e. apart e) x))
        (λ (c, client, is, has). inr (c, client_ended v ids client, ap (option_map (client_ended v ids)) (same c ∙ is), goes_on v ids q id apart client.producer.streams has))
        (fed.owned q id (less q id h))) (numbers q v);
    kept = λ c client is. by c (node'.clients c) (same c) client is;
  }
    where
      by : (c : ℕ) (o : Option PlainClient) → o ≡ node.clients c → (client : PlainClient) → option_map (client_ended v ids) o ≡ Some client → AreKept client.producer
      by c None e client is = cc
      by c (Some x) e client is = subst (λ (k : PlainClient). AreKept k.producer) (some_is (client_ended v ids x) client is) (kept_went x.producer (map (ended_in v ids) x.producer.streams) (ended_ids v ids x.producer.streams) ((fine.fed n node known).kept c x (sym e)))

  there_ended : (m : ℕ) (k : PlainNode) → (m ≡ n → ⊥) → w.nodes m ≡ Some k → NodeFed (Fed ended_links m) k.vbs k.clients
  there_ended m k ne q = relinked_fed (Fed w.links m) (Fed ended_links m) k.vbs k.clients (λ u id x. told_links m u id (λ a s. ne a) x) (fine.fed m k q)

  pub ended_fed : Fine ended
  ended_fed = record { numbers = numbers_told n v ids w.links fine.numbers; fed = λ m k q. by m k (n == n) refl q }
    where
      inner : (m : ℕ) (k : PlainNode) (b : Bool) → (m == n) ≡ b → (if b then Some (with_clients_ended v ids node') else (if b then Some node' else w.nodes m)) ≡ Some k → NodeFed (Fed ended_links m) k.vbs k.clients
      inner m k true e z = subst (λ (x : PlainNode). NodeFed (Fed ended_links m) x.vbs x.clients) (some_is (with_clients_ended v ids node') k z)
          (subst (λ l. NodeFed (Fed ended_links l) node'.vbs (λ c. option_map (client_ended v ids) (node'.clients c))) (sym (eqb-true m n e)) ended_here)
      inner m k false e z = there_ended m k (eqb-false m n e) z

      by : (m : ℕ) (k : PlainNode) (b : Bool) → (n == n) ≡ b → (with_links (node_if n (with_clients_ended v ids) (with_node_at w n node') (if b then Some node' else w.nodes n)) (links_ended n v ids w.links)).nodes m ≡ Some k → NodeFed (Fed ended_links m) k.vbs k.clients
      by m k true e z = inner m k (m == n) refl z
      by m k false e z = absurd (eqb-false n n e refl)

-- the vBucket has none
module _ (w : PlainWorld) (n v : ℕ) (node node' : PlainNode) (ids : List ℕ) (fine : Fine w) (known : w.nodes n ≡ Some node) (ends : Ends node.vbs node'.vbs v) (same : (c : ℕ) → node'.clients c ≡ node.clients c) where
  abbrev turned_world : PlainWorld
  turned_world = with_ended n v ids (with_node_at w n node')

  ended_fine : Fine turned_world
  ended_fine = ended_fed w n v node node' ids fine known ends.less (λ id h. absurd (ends.none id h)) same

  pub turned_fine : (told : AdminResult) → Fine (posted_in n told.resolved (turned n v told turned_world)).0
  turned_fine told = posts_in_fine n told.resolved (turned n v told turned_world) (by (own_link n v turned_world.links) refl)
    where
      by : (o : Option PlainLink) → own_link n v turned_world.links ≡ o → Fine (cut_off o turned_world).0
      by None e = ended_fine
      by (Some link) e = unlinked_fine turned_world link ended_fine (own_found n v turned_world.links link e).0

-- a call that gives the vBucket v a role
pub role_fine : (w : PlainWorld) (n v : ℕ) (asked : AdminCall)
    → ((node : PlainNode) (ids : List ℕ) → (called_at n v asked (placed v node)).1.ended ≡ Some ids → Ends node.vbs (called_at n v asked (placed v node)).0.vbs v) → Fine w → Fine (role_outcome n v asked w).0
role_fine w n v asked ends fine = by (w.nodes n) refl
  where
    called : (node : PlainNode) (ids : List ℕ) → (role_called n v asked node).1.ended ≡ Some ids → Ends node.vbs (role_called n v asked node).0.vbs v
    called node ids = either (λ (x : PlainNode × AdminResult). x.1.ended ≡ Some ids → Ends node.vbs x.0.vbs v) (is_some node.off) (node, admin_refused Cause.NodeDown) (under_arm v (called_at n v asked) node) (λ e. cc) (ends node ids)

    same_conns : (node : PlainNode) (c : ℕ) → (role_called n v asked node).0.clients c ≡ node.clients c
    same_conns node c = either (λ (x : PlainNode × AdminResult). x.0.clients c ≡ node.clients c) (is_some node.off) (node, admin_refused Cause.NodeDown) (under_arm v (called_at n v asked) node) refl refl

    told : (node : PlainNode) → w.nodes n ≡ Some node → (o : Option (List ℕ)) → (role_called n v asked node).1.ended ≡ o
        → Fine (turned_if n v w o (with_node_at w n (role_called n v asked node).0, (role_called n v asked node).1)).0
    told node e None q = fine
    told node e (Some ids) q = turned_fine w n v node (role_called n v asked node).0 ids fine e (called node ids q) (same_conns node) (role_called n v asked node).1

    by : (o : Option PlainNode) → w.nodes n ≡ o → Fine (turned_after n v w (node_outcome w n no_node o (role_called n v asked))).0
    by None e = fine
    by (Some node) e = told node e (role_called n v asked node).1.ended refl
