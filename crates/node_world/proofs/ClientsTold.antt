-- a world in which clients were told which streams a change of role ended
use Rattle.std.proofs.Common.{◌≡◌, ℕ, Bool, true, false, List, refl, ap, ◌∙◌, Option, Some, None}
use Rattle.std.specs.Prelude.{◌==◌, if◌then◌else◌}
use Rattle.std.specs.Option.{option_map}
use Rattle.std.proofs.lemmas.Bool.{eq-eqb}
use Rattle.client_session.specs.Serving.{PlainSession}
use Rattle.node_core.specs.Clients.{PlainClient, client_ended}
use Rattle.node_world.specs.Cuts.{links_ended}
use Rattle.node_world.specs.Nodes.{PlainNode, with_clients_ended}
use Rattle.node_world.specs.Turns.{with_ended}
use Rattle.node_world.specs.Worlds.{PlainWorld, node_if, with_links, with_node_at}

-- of two nodes that are put at a number the last one stands there
twice : (b : Bool) (x y : PlainNode) (o : Option PlainNode) → (if b then Some x else if b then Some y else o) ≡ (if b then Some x else o)
twice true x y o = refl
twice false x y o = refl

-- the node that made the change of role is told, and no other
pub told_world : (w : PlainWorld) (n v : ℕ) (ids : List ℕ) (y : PlainNode) → with_ended n v ids (with_node_at w n y) ≡ with_links (with_node_at w n (with_clients_ended v ids y)) (links_ended n v ids w.links)
told_world w n v ids y =
    let w1 : PlainWorld = with_node_at w n y in
    let f : PlainNode → PlainNode = with_clients_ended v ids in
    ap (λ o. with_links (node_if n f w1 o) (links_ended n v ids w.links)) (ap (λ b. if b then Some y else w.nodes n) (eq-eqb n n refl))
    ∙ (λ i. record { nodes = λ m. twice (m == n) (f y) y (w.nodes m) i; uuids = w.uuids; links = links_ended n v ids w.links })

pub told_uuids : (n v : ℕ) (ids : List ℕ) (w : PlainWorld) → (with_ended n v ids w).uuids ≡ w.uuids
told_uuids n v ids w = by (w.nodes n)
  where
    by : (o : Option PlainNode) → (node_if n (with_clients_ended v ids) w o).uuids ≡ w.uuids
    by None = refl
    by (Some node) = refl

-- the session of a connection, where there is one
abbrev pub session_in : Option PlainClient → Option PlainSession
session_in o = option_map (λ (client : PlainClient). client.session) o

-- the sessions stay
pub told_sessions : (v : ℕ) (ids : List ℕ) (o : Option PlainClient) → session_in (option_map (client_ended v ids) o) ≡ session_in o
told_sessions v ids None = refl
told_sessions v ids (Some client) = refl
