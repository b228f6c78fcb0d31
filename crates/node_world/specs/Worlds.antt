-- the plain world: nodes, the ids of branches, and the links between nodes
use Rattle.std.specs.Prelude.{ℕ, ◌==◌, if◌then◌else◌, not, Bool, false, List, [], Option, Some, None, is_some}
use Rattle.vb_events.specs.declared.event.Cause.TheVariants as cause
use Rattle.vb_calls.specs.Shelves.{Shelf}
use Rattle.vb_calls.specs.State.{Plain}
use Rattle.node_world.specs.Links.{PlainLink}
use Rattle.node_world.specs.declared.told.Told.{Told}
use Rattle.node_world.specs.Arms.{no_arm}
use Rattle.node_world.specs.Nodes.{PlainNode, if_up, refusal}
use Rattle.node_world.specs.declared.arm.Arm.{Arm}

-- the nodes by their numbers, the ids of all branches that were made, and the open links, in the order in which they were opened
pub record PlainWorld : Type 0 where
  pub nodes : ℕ → Option PlainNode
  pub uuids : List ℕ
  pub links : List PlainLink

-- nothing is made yet
abbrev pub empty_world : PlainWorld
empty_world = record { nodes = λ n. None; uuids = []; links = [] }

-- the world with this node at n
abbrev pub with_node_at : PlainWorld → ℕ → PlainNode → PlainWorld
with_node_at w n node = record { nodes = λ m. if m == n then Some node else w.nodes m; uuids = w.uuids; links = w.links }

-- the world with these links
abbrev pub with_links : PlainWorld → List PlainLink → PlainWorld
with_links w links = record { nodes = w.nodes; uuids = w.uuids; links = links }

-- the world after a line, and what is told of the line
abbrev pub Outcome : Type 0
Outcome = PlainWorld × Told

-- what becomes of a line for the node n: f says, or, where no such node is made, `absent` is told
abbrev pub node_outcome : {T : Type 0} → PlainWorld → ℕ → T → Option PlainNode → (PlainNode → PlainNode × T) → PlainWorld × T
node_outcome w n absent None f = (w, absent)
node_outcome w n absent (Some node) f = (with_node_at w n (f node).0, (f node).1)

-- a line that names a node: it must be made, and the line is the node's affair, whether it is running or not
abbrev pub on_made : PlainWorld → ℕ → (PlainNode → PlainNode × Told) → Outcome
on_made w n f = node_outcome w n (refusal cause.UnknownNode) (w.nodes n) f

-- a line for a running node
abbrev pub on_node : PlainWorld → ℕ → (PlainNode → PlainNode × Told) → Outcome
on_node w n f = on_made w n (if_up f)

-- a node is made and not running
abbrev pub is_off : Option PlainNode → Bool
is_off None = false
is_off (Some node) = is_some node.off

-- a node is made and running
abbrev pub is_up : Option PlainNode → Bool
is_up None = false
is_up (Some node) = not (is_some node.off)

-- the arm of a node, where it is made
abbrev pub arm_in : Option PlainNode → Arm
arm_in None = no_arm
arm_in (Some node) = node.arm

-- the vBucket v of a node, where there are both
abbrev pub vb_in : Option PlainNode → ℕ → Option Plain
vb_in None v = None
vb_in (Some node) v = node.vbs v

-- the journal of the vBucket v of a node, where there are both
abbrev pub shelf_in : Option PlainNode → ℕ → Option Shelf
shelf_in None v = None
shelf_in (Some node) v = node.shelves v

-- a node that is made, after this
abbrev pub node_if : ℕ → (PlainNode → PlainNode) → PlainWorld → Option PlainNode → PlainWorld
node_if n f w None = w
node_if n f w (Some node) = with_node_at w n (f node)

-- the world in which the node n, if it is made, is after this
abbrev pub with_node_if : ℕ → (PlainNode → PlainNode) → PlainWorld → PlainWorld
with_node_if n f w = node_if n f w (w.nodes n)
