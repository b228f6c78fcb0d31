-- a node whose vBucket got another role, and whose clients were told which streams that ended
use Rattle.std.specs.Prelude.{◌≡◌, ◌==◌, if◌then◌else◌, option_map}
use Rattle.transcript_law.proofs.Words.{ℕ, Bool, true, false, List, refl, ap, sym, ◌∙◌, subst, Option, Some, None, eq-eqb, eqb-true, Plain, PlainNode, PlainWorld, links_ended, node_if, with_ended, with_links, with_node_at, with_states, with_vb_at, vb_in}
use Rattle.transcript_law.proofs.{disks.Disks.{power_in}, invariant.Agreement.{vb_of}, invariant.Carrying.{Changed, same_arms}, links.Turning.{Turned, open_before}, verbs.NodeLines.{node_changed, shelves_again, shelves_put}}
use Rattle.node_core.specs.Clients.{PlainClient, client_ended}
use Rattle.node_world.specs.Nodes.{with_clients_ended}
use Rattle.transcript_law.specs.Feeding.{HasOpen, IsOfClient, client_in}

-- the node that made the change of role is told, and no other
twice : (b : Bool) (x y : PlainNode) (o : Option PlainNode) → (if b then Some x else if b then Some y else o) ≡ (if b then Some x else o)
twice true x y o = refl
twice false x y o = refl

pub told_world : (w : PlainWorld) (n v : ℕ) (ids : List ℕ) (y : PlainNode) → with_ended n v ids (with_node_at w n y) ≡ with_links (with_node_at w n (with_clients_ended v ids y)) (links_ended n v ids w.links)
told_world w n v ids y =
    let w1 : PlainWorld = with_node_at w n y in
    let f : PlainNode → PlainNode = with_clients_ended v ids in
    ap (λ o. with_links (node_if n f w1 o) (links_ended n v ids w.links)) (ap (λ b. if b then Some y else w.nodes n) (eq-eqb n n refl))
    ∙ (λ i. record { nodes = λ m. twice (m == n) (f y) y (w.nodes m) i; uuids = w.uuids; links = links_ended n v ids w.links })

-- a client's open streams were open before
pub open_was : (w : PlainWorld) (n v : ℕ) (ids : List ℕ) (node last : PlainNode) → w.nodes n ≡ Some node → ((c : ℕ) → last.clients c ≡ option_map (client_ended v ids) (node.clients c))
    → (m d q id : ℕ) → IsOfClient (with_node_at w n last) m d q id → IsOfClient w m d q id
open_was w n v ids node last at clients m d q id (client, is, has) = by (m == n) refl is
  where
    was : (o : Option PlainClient) → option_map (client_ended v ids) o ≡ Some client → (x : PlainClient) × (o ≡ Some x) × HasOpen q id x.producer.streams
    was None e = let z : None ≡ Some client = e in absurd (cc z)
    was (Some x) e = let same : client_ended v ids x ≡ client = cc in (x, refl, open_before v ids x.producer.streams q id (subst (λ (y : PlainClient). HasOpen q id y.producer.streams) (sym same) has))

    by : (b : Bool) → (m == n) ≡ b → client_in (if b then Some last else w.nodes m) d ≡ Some client → IsOfClient w m d q id
    by true e there = let x = was (node.clients d) (sym (clients d) ∙ there) in (x.0, ap (λ o. client_in o d) (ap w.nodes (eqb-true m n e) ∙ at) ∙ x.1, x.2)
    by false e there = (client, there, has)

-- a world in which the vBucket v of a node is another one, more ids are used, and producers were told which streams ended
abbrev pub turned_node : PlainNode → ℕ → Plain → List ℕ → PlainNode
turned_node node v x ids = with_clients_ended v ids (with_states node (with_vb_at node.vbs v x))

pub node_turned : (w w' : PlainWorld) (n v : ℕ) (node : PlainNode) (x : Plain) (ids : List ℕ) → w.nodes n ≡ Some node → w'.nodes ≡ (with_node_at w n (turned_node node v x ids)).nodes → w'.links ≡ links_ended n v ids w.links → Turned w w' n v x ids
node_turned w w' n v node x ids at nodes linked =
    subst (λ (f : ℕ → Option PlainNode). Turned w (record { nodes = f; uuids = w'.uuids; links = w'.links }) n v x ids) (sym nodes) (record {
      powers = λ m. elim (m == n) as (λ b. power_in (if b then Some told else w.nodes m) ≡ power_in (if b then Some called else w.nodes m)) [ true ↦ refl | false ↦ refl ] ∙ same_arms w (with_node_at w n called) one.powers m;
      clients = λ m c. elim (m == n) as (λ b. (m == n) ≡ b → client_in (if b then Some told else w.nodes m) c ≡ (if b then option_map (client_ended v ids) (client_in (w.nodes m) c) else client_in (w.nodes m) c))
          [ true ↦ λ e. ap (λ o. option_map (client_ended v ids) (client_in o c)) (sym at ∙ ap w.nodes (sym (eqb-true m n e))) | false ↦ λ e. refl ] refl;
      here = vbs_same n v ∙ one.here;
      there = λ m q o. vbs_same m q ∙ one.there m q o;
      shelves = λ m q. shelves_again w n node told (λ j. refl) m q ∙ shelves_put w n node at m q;
      linked = linked;
    })
  where
    called : PlainNode
    called = with_states node (with_vb_at node.vbs v x)

    told : PlainNode
    told = turned_node node v x ids

    one : Changed w (with_node_at w n called) n v x w.links
    one = node_changed w n v node called x at (λ q. refl) (λ q o. refl) refl

    vbs_same : (m q : ℕ) → vb_of (with_node_at w n told) m q ≡ vb_of (with_node_at w n called) m q
    vbs_same m q = elim (m == n) as (λ b. vb_in (if b then Some told else w.nodes m) q ≡ vb_in (if b then Some called else w.nodes m) q) [ true ↦ refl | false ↦ refl ]
