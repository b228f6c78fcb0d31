-- what is left of a node, and of the world, once outcomes were told to who awaits them
use Rattle.std.proofs.Common.{◌≡◌, ℕ, Bool, true, false, List, [], ◌∷◌, append-nil, refl, ap, sym, ◌∙◌, Option, Some, None}
use Rattle.std.specs.Prelude.{◌==◌, if◌then◌else◌}
use Rattle.std.proofs.lemmas.Bool.{eqb-true, eq-eqb}
use Rattle.vb_calls.specs.declared.calls.Resolved.{Resolved}
use Rattle.node_core.specs.Clients.{PlainClient}
use Rattle.node_world.specs.declared.told.Told.{Told}
use Rattle.node_world.specs.declared.script_node.TheConstants.{MAX_CLIENTS}
use Rattle.node_world.specs.Arms.{PlainNode}
use Rattle.node_world.specs.Nodes.{all_posted, awaiting, posted, posted_if, posted_to}
use Rattle.node_world.specs.Turns.{posted_at, posted_in}
use Rattle.node_world.specs.Worlds.{PlainWorld, arm_in}

-- the vBuckets and client connections of another node
abbrev pub with_parts : PlainNode → PlainNode → PlainNode
with_parts node other = record node { vbs = other.vbs; clients = other.clients }

if_leaves : (c : ℕ) (r : Resolved) (node : PlainNode) (o : Option PlainClient) → (posted_if c r node o).0 ≡ with_parts node (posted_if c r node o).0
if_leaves c r node None = refl
if_leaves c r node (Some client) = refl

to_leaves : (r : Resolved) (node : PlainNode) (o : Option ℕ) → (posted_to r node o).0 ≡ with_parts node (posted_to r node o).0
to_leaves r node None = refl
to_leaves r node (Some c) = if_leaves c r node (node.clients c)

-- all but those stays
pub posts_leave : (rs : List Resolved) (node : PlainNode) → (all_posted rs node).0 ≡ with_parts node (all_posted rs node).0
posts_leave [] node = refl
posts_leave (r ∷ rs) node =
    let next : PlainNode = (posted r node).0 in
    posts_leave rs next ∙ ap (λ x. with_parts x (all_posted rs next).0) (to_leaves r node (awaiting node.clients r.waiter MAX_CLIENTS))

pub posts_shelves : (rs : List Resolved) (node : PlainNode) → (all_posted rs node).0.shelves ≡ node.shelves
posts_shelves rs node = ap (λ (x : PlainNode). x.shelves) (posts_leave rs node)

pub posts_arm : (rs : List Resolved) (node : PlainNode) → (all_posted rs node).0.arm ≡ node.arm
posts_arm rs node = ap (λ (x : PlainNode). x.arm) (posts_leave rs node)

-- ---- in the world

module _ (n : ℕ) (rs : List Resolved) (w : PlainWorld) (told : Told) where
  -- the answer of the line stays
  pub posted_answer : (posted_in n rs (w, told)).1.answer ≡ told.answer
  posted_answer = by (w.nodes n)
    where
      by : (o : Option PlainNode) → (posted_at n rs w told o).1.answer ≡ told.answer
      by None = refl
      by (Some node) = refl

  -- so does the arm of the node
  pub posted_arm : arm_in ((posted_in n rs (w, told)).0.nodes n) ≡ arm_in (w.nodes n)
  posted_arm = by (w.nodes n) refl
    where
      by : (o : Option PlainNode) → w.nodes n ≡ o → arm_in ((posted_at n rs w told o).0.nodes n) ≡ arm_in (w.nodes n)
      by None there = refl
      by (Some node) there = ap (λ b. arm_in (if b then Some (all_posted rs node).0 else w.nodes n)) (eq-eqb n n refl) ∙ posts_arm rs node ∙ sym (ap arm_in there)

-- no outcome
pub none_posted : (n : ℕ) (w : PlainWorld) (told : Told) → posted_in n [] (w, told) ≡ (w, told)
none_posted n w told = by (w.nodes n) refl
  where
    same : (node : PlainNode) → w.nodes n ≡ Some node → (m : ℕ) (b : Bool) → (m == n) ≡ b → (if b then Some node else w.nodes m) ≡ w.nodes m
    same node there m true e = sym (ap w.nodes (eqb-true m n e) ∙ there)
    same node there m false e = refl

    by : (o : Option PlainNode) → w.nodes n ≡ o → posted_at n [] w told o ≡ (w, told)
    by None there = refl
    by (Some node) there = λ i. (record { nodes = λ m. same node there m (m == n) refl i; uuids = w.uuids; links = w.links }, record { events = append-nil told.events i; answer = told.answer })
