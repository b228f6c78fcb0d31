-- what a node that stops tells, and what is left of it
use Rattle.std.specs.Prelude.{◌≡◌, ◌↔◌, ◌⊎◌, ◌<◌, ℕ, List, [], ◌∷◌, ◌++◌, map, Option, Some, None}
use Rattle.std.specs.List.{AllByRecursion}
use Rattle.node_core.specs.Clients.{PlainClient}
use Rattle.vb_disk.specs.declared.made.Outcome.{Outcome}
use Rattle.vb_events.specs.declared.event.Answer.TheVariants as answer
use Rattle.vb_events.specs.declared.event.EndReason.TheVariants as reason
use Rattle.vb_events.specs.declared.event.Event.{Event}
use Rattle.vb_events.specs.declared.event.Event.TheVariants as event
use Rattle.vbucket.specs.Rows.{row_at}
use Rattle.node_world.specs.declared.arm.Fired.TheVariants as fired
use Rattle.node_world.specs.declared.told.Told.{Told}
use Rattle.node_world.specs.Arms.{PlainNode}
use Rattle.node_world.specs.Links.{PlainLink, link_number, producer_node, consumer_node}
use Rattle.node_world.specs.Power.{after_broken, after_fire, crash_step, start_at}
use Rattle.node_world.specs.Worlds.{PlainWorld}

-- each number is below all behind it
abbrev pub Climb : List ℕ → Type 0
Climb [] = Unit {0}
Climb (x ∷ xs) = AllByRecursion (λ y. x < y) xs × Climb xs

-- a number is among these
abbrev pub Has : List ℕ → ℕ → Type 0
Has [] k = ⊥
Has (x ∷ xs) k = (x ≡ k) ⊎ Has xs k

-- the link l has an end at the node n
abbrev pub HasEnd : ℕ → PlainWorld → ℕ → Type 0
HasEnd n w l = (link : PlainLink) × (row_at link_number l w.links ≡ Some link) × ((producer_node link ≡ n) ⊎ (consumer_node link ≡ n))

-- the client connection c of the node n is open
abbrev pub IsOpen : ℕ → PlainWorld → ℕ → Type 0
IsOpen n w c = (node : PlainNode) × (w.nodes n ≡ Some node) × (client : PlainClient) × (node.clients c ≡ Some client)

-- first the ends of links, by rising numbers: of those with an end at the node n, and of this one more; then those of the node's client connections, by rising numbers
pub record EndsInOrder (n : ℕ) (also : Option ℕ) (w : PlainWorld) (events : List Event) : Type 0 where
  pub links : List ℕ
  pub clients : List ℕ
  pub told : events ≡ map (λ l. event.Ended l reason.Cut) links ++ map (λ c. event.Closed n c) clients
  pub links_climb : Climb links
  pub clients_climb : Climb clients
  pub cut : (l : ℕ) → Has links l ↔ ((l < 1000) × ((also ≡ Some l) ⊎ HasEnd n w l))
  pub closed : (c : ℕ) → Has clients c ↔ ((c < 1000) × IsOpen n w c)

-- these lines, then that the node n stopped, and then these ends
abbrev pub StopsBehind : ℕ → Option ℕ → PlainWorld → List Event → List Event → Type 0
StopsBehind n also w before events = (ends : List Event) × (events ≡ before ++ event.NodeStopped n ∷ ends) × EndsInOrder n also w ends

-- a clock that stands at 0 does so when the node starts
abbrev pub StartsAtZero : ℕ → PlainNode → Type 0
StartsAtZero n node = (uuids : List ℕ) → node.clock ≡ 0 → (start_at n uuids node).0.clock ≡ 0

-- no vBucket and no connection in memory, and a clock at 0
abbrev pub HasNothing : PlainNode → Type 0
HasNothing node = (node.clock ≡ 0) × ((v : ℕ) → node.vbs v ≡ None) × ((c : ℕ) → node.clients c ≡ None)

-- so is the node n of a world, if it is made
abbrev pub LeavesNothing : ℕ → PlainWorld → Type 0
LeavesNothing n w = (node : PlainNode) → w.nodes n ≡ Some node → HasNothing node

-- a crash of the node n, an arm of it that stops it inside a line, and one that does while the link l goes back
pub record StopsInOrder (w : PlainWorld) (n : ℕ) (out : Outcome) : Type 0 where
  pub crash : (crash_step w n out).1.answer ≡ answer.Ok → EndsInOrder n None w (crash_step w n out).1.events × LeavesNothing n (crash_step w n out).0
  pub by_arm : (told : Told) → StopsBehind n None w told.events (after_fire n out fired.Stopped (w, told)).1.events
  pub going_back : (l : ℕ) (told : Told) → StopsBehind n (Some l) w told.events (after_broken n l out fired.Stopped (w, told)).1.events
  pub left : (l : ℕ) (told : Told) → LeavesNothing n (after_fire n out fired.Stopped (w, told)).0 × LeavesNothing n (after_broken n l out fired.Stopped (w, told)).0
