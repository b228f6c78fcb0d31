-- the streams of vBuckets, and the links and clients that they are of
use Rattle.std.specs.Prelude.{◌≡◌, ◌≢◌, ◌⊎◌, ℕ, true, false, List, [], ◌∷◌, Option, Some, None}
use Rattle.dcp_producer.specs.Producers.{PlainStream}
use Rattle.node_core.specs.Clients.{PlainClient}
use Rattle.node_world.specs.Links.{PlainLink, link_number, producer_node, consumer_node}
use Rattle.node_world.specs.Nodes.{PlainNode}
use Rattle.node_world.specs.World.{PlainWorld, vb_in}
use Rattle.node_world.specs.Worlds.{is_up}
use Rattle.vb_events.specs.declared.event.StreamName.{StreamName}
use Rattle.vb_events.specs.declared.event.StreamName.TheVariants as name
use Rattle.takeover.specs.declared.take_over.TakeStep.TheVariants.{Own}
use Rattle.vb_types.specs.declared.role.Role.{Role}
use Rattle.vb_calls.specs.Following.{is_follower}
use Rattle.vb_calls.specs.Plain.{Plain, plain_step}
use Rattle.vb_calls.specs.declared.calls.VbAnswer.TheVariants as answer
use Rattle.vb_calls.specs.declared.calls.VbCall.TheVariants as call
use Rattle.vb_calls.specs.declared.stream.Stream.{Stream}
use Rattle.vbucket.specs.Rows.{row_at}

-- one of these streams has this number
abbrev pub Has : List Stream → ℕ → Type 0
Has [] id = ⊥
Has (s ∷ ss) id = (s.id ≡ id) ⊎ Has ss id

-- one of the vBucket's does, where there is a vBucket
abbrev pub HasIn : Option Plain → ℕ → Type 0
HasIn None id = ⊥
HasIn (Some vb) id = Has vb.streams id

-- the vBucket v of the node n has a stream of this number
abbrev pub HasStream : PlainWorld → ℕ → ℕ → ℕ → Type 0
HasStream w n v id = HasIn (vb_in (w.nodes n) v) id

-- a stream of the vBucket v under this number, which no change of role ended
abbrev pub IsOpenAt : ℕ → ℕ → PlainStream → Type 0
IsOpenAt v id stream = (stream.vb ≡ v) × (stream.id ≡ id) × (stream.ended ≡ false)

-- one of these streams is such a one
abbrev pub HasOpen : ℕ → ℕ → List PlainStream → Type 0
HasOpen v id [] = ⊥
HasOpen v id (stream ∷ more) = IsOpenAt v id stream ⊎ HasOpen v id more

-- the producer of a link is at the node n, and one of its streams is of the vBucket v there, under this number
pub record IsOf (n v id : ℕ) (link : PlainLink) : Type 0 where
  pub producer : producer_node link ≡ n
  pub stream : HasOpen v id link.server.streams

-- the link l is open
abbrev pub IsLinked : PlainWorld → ℕ → PlainLink → Type 0
IsLinked w l link = row_at link_number l w.links ≡ Some link

-- the open connection of a client of a node, where there are both
abbrev pub client_in : Option PlainNode → ℕ → Option PlainClient
client_in None c = None
client_in (Some node) c = node.clients c

-- an open client's connection at the node n is of this number there, and one of its producer's streams is of the vBucket v, under this number
abbrev pub IsOfClient : PlainWorld → ℕ → ℕ → ℕ → ℕ → Type 0
IsOfClient w n c v id = (client : PlainClient) × (client_in (w.nodes n) c ≡ Some client) × HasOpen v id client.producer.streams

-- who is of this name, an open link or an open client's connection, has the producer's end at the node n, and one of its streams is of the vBucket v there, under this number
abbrev pub HasFed : PlainWorld → StreamName → ℕ → ℕ → ℕ → Type 0
HasFed w (name.Link l) n v id = (link : PlainLink) × IsLinked w l link × IsOf n v id link
HasFed w (name.Client m c) n v id = (m ≡ n) × IsOfClient w n c v id

-- each stream of a vBucket is one that the producer of an open link or of an open client's connection says that it has, at its node and vBucket; each that such a producer says that it has is there, a link's at the vBucket that the link feeds; and no two of them have one stream
pub record StreamsAreFed (w : PlainWorld) : Type 0 where
  pub fed : (n v id : ℕ) → HasStream w n v id → (who : StreamName) × HasFed w who n v id
  pub opened : (who : StreamName) (n v id : ℕ) → HasFed w who n v id → HasStream w n v id
  pub dialed : (l n v id : ℕ) (link : PlainLink) → IsLinked w l link → IsOf n v id link → link.consumer.dialed.vb ≡ v
  pub apart : (who other : StreamName) (n v id : ℕ) → HasFed w who n v id → HasFed w other n v id → who ≡ other

-- a vBucket knows the stream of this number: it answers Absent neither where it is asked for the stream's place nor to a take
abbrev pub Knows : Plain → ℕ → Type 0
Knows vb id = ((plain_step vb (call.Place id)).1.answer ≢ answer.Absent) × ((plain_step vb (call.Take id)).1.answer ≢ answer.Absent)

-- where there is a vBucket
abbrev pub KnowsIn : Option Plain → ℕ → Type 0
KnowsIn None id = ⊥
KnowsIn (Some vb) id = Knows vb id

-- each stream that the producer of an open link or of an open client's connection says that it has is known to its vBucket: so none is ended since its vBucket lost it
abbrev pub StreamsAreKnown : PlainWorld → Type 0
StreamsAreKnown w = (who : StreamName) (n v id : ℕ) → HasFed w who n v id → KnowsIn (vb_in (w.nodes n) v) id

-- the vBucket that a link feeds took its branch over by this link, whose end alone is to come
abbrev pub IsOwner : PlainLink → Type 0
IsOwner link = link.consumer.taking.last ≡ Some Own

-- a vBucket follows, and did not take its branch over by this link; or it did, and follows nobody
abbrev pub FollowsOrOwns : Role → PlainLink → Type 0
FollowsOrOwns role link = ((is_follower role ≡ true) × (IsOwner link → ⊥)) ⊎ ((is_follower role ≡ false) × IsOwner link)

-- each open link has its number, and feeds a vBucket that is there and follows, unless it took its branch over by this link; the nodes at both its ends are made, and run; and no two links feed one vBucket
pub record LinksAreFed (w : PlainWorld) : Type 0 where
  pub number : (l : ℕ) (link : PlainLink) → IsLinked w l link → link_number link ≡ l
  pub follows : (l : ℕ) (link : PlainLink) → IsLinked w l link → (vb : Plain) × (vb_in (w.nodes (consumer_node link)) link.consumer.dialed.vb ≡ Some vb) × FollowsOrOwns vb.role link
  pub runs : (l : ℕ) (link : PlainLink) → IsLinked w l link → (is_up (w.nodes (consumer_node link)) ≡ true) × (is_up (w.nodes (producer_node link)) ≡ true)
  pub apart : (l k : ℕ) (link other : PlainLink) → IsLinked w l link → IsLinked w k other → consumer_node link ≡ consumer_node other → link.consumer.dialed.vb ≡ other.consumer.dialed.vb → l ≡ k
