-- what a step at one link changes, and that all else agrees as before
use Rattle.std.specs.Prelude.{◌≡◌, ◌⊎◌}
use Rattle.transcript_law.proofs.Words.{ℕ, List, Option, Some, None, Plain, stream_at, Sound, row_at, row_put, row_out, Member, Cluster, PlainLink, link_number, producer_node, PlainWorld, Dial}
use Rattle.{disk_journals.specs.Books.{Book}, node_world.specs.declared.arm.Arm.{Arm}, std.specs.Prelude.{option_map}}
use Rattle.transcript_law.proofs.{Words.{Chronicle}, invariant.Agreement.{node_known, Power, vb_of, power_of, shelf_of, IsLink, LinksDiffer, Busy, vb_row}}
use Rattle.transcript_law.proofs.disks.Disks.{beside_clients, beside_in, beside_power}
use Rattle.transcript_law.specs.{ClientStreams.{past_turn, with_clients_of}, Feeding.{HasOpen, client_in}}
use Rattle.vb_events.specs.declared.event.StreamName.TheVariants.{Link}
use Rattle.transcript_law.proofs.invariant.Owing.{Later}

-- a link is between the ends that it was between
pub record SameEnds (before after : PlainLink) : Type 0 where
  pub dialed : after.consumer.dialed ≡ before.consumer.dialed
  pub desk : after.server.desk ≡ before.server.desk

-- the nodes have the arms that they had, and are running or down as they were
abbrev pub SameArms : PlainWorld → PlainWorld → Type 0
SameArms w w' = (m : ℕ) → power_of w' m ≡ power_of w m

-- and their clients are as they were too
abbrev pub SamePowers : PlainWorld → PlainWorld → Type 0
SamePowers w w' = (m : ℕ) → beside_in (w'.nodes m) ≡ beside_in (w.nodes m)

abbrev pub SameClients : PlainWorld → PlainWorld → Type 0
SameClients w w' = (m c : ℕ) → client_in (w'.nodes m) c ≡ client_in (w.nodes m) c

pub same_arms : (w w' : PlainWorld) → SamePowers w w' → SameArms w w'
same_arms w w' same m = beside_power (w.nodes m) (w'.nodes m) (same m)

pub same_clients : (w w' : PlainWorld) → SamePowers w w' → SameClients w w'
same_clients w w' same m = beside_clients (w.nodes m) (w'.nodes m) (same m)

-- whether a node is made, and what is on its disks where it is down
abbrev pub off_of : Option Power → Option (Option (List Book))
off_of power = option_map (λ (p : Power). p.off) power

-- they are running or down as they were, whatever their arms are
abbrev pub SameOffs : PlainWorld → PlainWorld → Type 0
SameOffs w w' = (m : ℕ) → off_of (power_of w' m) ≡ off_of (power_of w m)

-- the world in which the node n has this arm
pub record Rearmed (w w' : PlainWorld) (n : ℕ) (power : Power) (arm : Arm) : Type 0 where
  pub before : power_of w n ≡ Some power
  pub armed : power_of w' n ≡ Some (record power { arm = arm })
  pub others : (m : ℕ) → (m ≡ n → ⊥) → power_of w' m ≡ power_of w m
  pub vbs : (m v : ℕ) → vb_of w' m v ≡ vb_of w m v
  pub shelves : (m v : ℕ) → shelf_of w' m v ≡ shelf_of w m v
  pub clients : SameClients w w'
  pub uuids : w'.uuids ≡ w.uuids
  pub linked : w'.links ≡ w.links

-- the world in which the clock of the node n shows this
pub record Reclocked (w w' : PlainWorld) (n : ℕ) (power : Power) (nanos : ℕ) : Type 0 where
  pub before : power_of w n ≡ Some power
  pub shows : power_of w' n ≡ Some (record power { clock = nanos })
  pub others : (m : ℕ) → (m ≡ n → ⊥) → power_of w' m ≡ power_of w m
  pub vbs : (m v : ℕ) → vb_of w' m v ≡ vb_of w m v
  pub shelves : (m v : ℕ) → shelf_of w' m v ≡ shelf_of w m v
  pub clients : SameClients w w'
  pub uuids : w'.uuids ≡ w.uuids
  pub linked : w'.links ≡ w.links

-- the world with other links
pub record Relinked (w w' : PlainWorld) (links : List PlainLink) : Type 0 where
  pub powers : SamePowers w w'
  pub vbs : (n v : ℕ) → vb_of w' n v ≡ vb_of w n v
  pub shelves : (n v : ℕ) → shelf_of w' n v ≡ shelf_of w n v
  pub uuids : w'.uuids ≡ w.uuids
  pub linked : w'.links ≡ links

-- the world with another vBucket v at the node n, and other links
pub record Changed (w w' : PlainWorld) (n v : ℕ) (vb : Plain) (links : List PlainLink) : Type 0 where
  pub powers : SamePowers w w'
  pub here : vb_of w' n v ≡ Some vb
  pub there : (m q : ℕ) → (m ≡ n → q ≡ v → ⊥) → vb_of w' m q ≡ vb_of w m q
  pub shelves : (m q : ℕ) → (m ≡ n → q ≡ v → ⊥) → shelf_of w' m q ≡ shelf_of w m q
  pub uuids : w'.uuids ≡ w.uuids
  pub linked : w'.links ≡ links

-- the world with other clients' connections, and all else as it was
pub record Reconnected (w w' : PlainWorld) : Type 0 where
  pub powers : SameArms w w'
  pub vbs : (n v : ℕ) → vb_of w' n v ≡ vb_of w n v
  pub shelves : (n v : ℕ) → shelf_of w' n v ≡ shelf_of w n v
  pub uuids : w'.uuids ≡ w.uuids
  pub linked : w'.links ≡ w.links

-- and with another vBucket v at the node n
pub record ReconnectedAt (w w' : PlainWorld) (n v : ℕ) (vb : Plain) : Type 0 where
  pub powers : SameArms w w'
  pub here : vb_of w' n v ≡ Some vb
  pub there : (m q : ℕ) → (m ≡ n → q ≡ v → ⊥) → vb_of w' m q ≡ vb_of w m q
  pub shelves : (m q : ℕ) → (m ≡ n → q ≡ v → ⊥) → shelf_of w' m q ≡ shelf_of w m q
  pub uuids : w'.uuids ≡ w.uuids
  pub linked : w'.links ≡ w.links

-- the world with another vBucket v at the node n, and another link of the number l
abbrev pub Became : PlainWorld → PlainWorld → ℕ → ℕ → Plain → ℕ → PlainLink → Type 0
Became w w' n v vb l link = Changed w w' n v vb (row_put link_number l link w.links)

-- lines that tell of the link l and its stream at most
pub record ToldOf (l : ℕ) (r r' : Chronicle) : Type 0 where
  pub last : Later r r'
  pub tree : r'.tree ≡ r.tree
  pub writer_of : (u : ℕ) → r'.writer_of u ≡ r.writer_of u
  pub rows : (n v : ℕ) → vb_row r' n v ≡ vb_row r n v
  pub arms : (n : ℕ) → node_known r' n ≡ node_known r n
  pub clients : (n c : ℕ) → r'.clients_at n c ≡ r.clients_at n c
  pub dials : (k : ℕ) → (k ≡ l → ⊥) → r'.dial_of k ≡ r.dial_of k
  pub streams : (k q : ℕ) → (k ≡ l → ⊥) → r'.stream_of (Link k) q ≡ r.stream_of (Link k) q
  pub states : (k : ℕ) → (k ≡ l → ⊥) → r'.stated_of k ≡ r.stated_of k
  pub points : (k : ℕ) → (k ≡ l → ⊥) → r'.point_of k ≡ r.point_of k

-- a dial is for another vBucket
abbrev pub IsApart : ℕ → ℕ → Option Dial → Type 0
IsApart n v None = Unit {0}
IsApart n v (Some dial) = dial.node ≡ n → dial.vb ≡ v → ⊥

-- what is told of other links than l, and of other vBuckets than v of the node n, which it feeds, is as it was
pub record OthersTold (l n v : ℕ) (r r' : Chronicle) : Type 0 where
  pub rows : (m q : ℕ) → (m ≡ n → q ≡ v → ⊥) → vb_row r' m q ≡ vb_row r m q
  pub dials : (k : ℕ) → (k ≡ l → ⊥) → r'.dial_of k ≡ r.dial_of k
  pub streams : (k q : ℕ) → (k ≡ l → ⊥) → IsApart n v (r.dial_of k) → r'.stream_of (Link k) q ≡ r.stream_of (Link k) q
  pub states : (k : ℕ) → (k ≡ l → ⊥) → r'.stated_of k ≡ r.stated_of k
  pub points : (k : ℕ) → (k ≡ l → ⊥) → IsApart n v (r.dial_of k) → r'.point_of k ≡ r.point_of k

-- lines that tell of the link l and its stream, and of the role of the vBucket v of the node n, which it feeds, at most
pub record RoleOf (l n v : ℕ) (r r' : Chronicle) : Type 0 where
  pub beside : OthersTold l n v r r'
  pub open beside use *
  pub last : Later r r'
  pub tree : r'.tree ≡ r.tree
  pub clients : (m c : ℕ) → r'.clients_at m c ≡ with_clients_of r.clients_at n (past_turn v (r.held n v)) m c

-- lines that tell of the link l and its stream, and of what the vBucket v of the node n, which it feeds, holds and of its log, at most
pub record TakenOf (l n v : ℕ) (r r' : Chronicle) : Type 0 where
  pub last : Later r r'
  pub tree : r'.tree ≡ r.tree
  pub writer_of : (u : ℕ) → r'.writer_of u ≡ r.writer_of u
  pub rows : (m q : ℕ) → (m ≡ n → q ≡ v → ⊥) → vb_row r' m q ≡ vb_row r m q
  pub clients : (m c : ℕ) → r'.clients_at m c ≡ r.clients_at m c
  pub dials : (k : ℕ) → (k ≡ l → ⊥) → r'.dial_of k ≡ r.dial_of k
  pub streams : (k q : ℕ) → (k ≡ l → ⊥) → IsApart n v (r.dial_of k) → r'.stream_of (Link k) q ≡ r.stream_of (Link k) q
  pub states : (k : ℕ) → (k ≡ l → ⊥) → r'.stated_of k ≡ r.stated_of k
  pub points : (k : ℕ) → (k ≡ l → ⊥) → IsApart n v (r.dial_of k) → r'.point_of k ≡ r.point_of k

pub others_taken : {l n v : ℕ} {r r' : Chronicle} → TakenOf l n v r r' → OthersTold l n v r r'
others_taken t = record { rows = t.rows; dials = t.dials; streams = t.streams; states = t.states; points = t.points }

-- a vBucket of which a step changed the streams alone, and none but that of this number
pub record StreamsChanged (id : ℕ) (vb vb' : Plain) : Type 0 where
  pub sound : Sound vb'
  pub alone : vb' ≡ record vb { streams = vb'.streams }
  pub others : (x : ℕ) → (x ≡ id → ⊥) → stream_at x vb'.streams ≡ stream_at x vb.streams

-- the cluster with another member k
pub record MemberChanged (k : ℕ) (c c' : Cluster) : Type 0 where
  pub tree : c'.tree ≡ c.tree
  pub others : (j : ℕ) → (j ≡ k → ⊥) → c'.nodes j ≡ c.nodes j
  pub disks : (j : ℕ) → (j ≡ k → ⊥) → c'.disks j ≡ c.disks j

-- a member that is fed otherwise, and else as it was
pub record FedMember (m m' : Member) : Type 0 where
  pub active : m'.active ≡ m.active
  pub br : m'.br ≡ m.br
  pub held : m'.held ≡ m.held
  pub position : m'.position ≡ m.position
  pub log : m'.log ≡ m.log

-- the cluster with a member k that is fed otherwise
pub record FeedChanged (k : ℕ) (c c' : Cluster) : Type 0 where
  pub changed : MemberChanged k c c'
  pub fed : FedMember (c.nodes k) (c'.nodes k)
  pub disk : c'.disks k ≡ c.disks k

-- at other links than l the same frames are about to be answered or taken
abbrev pub BusyBut : ℕ → Busy → Busy → Type 0
BusyBut l busy busy' = (k : ℕ) → (k ≡ l → ⊥) → busy' k ≡ busy k

-- a link has no open stream that it had not
abbrev pub NoNewStream : PlainLink → PlainLink → Type 0
NoNewStream link link' = (v id : ℕ) → HasOpen v id link'.server.streams → HasOpen v id link.server.streams

-- the world without a link: each vBucket as it was, or an open stream of the link is closed at its producer's
abbrev pub Closed : PlainWorld → PlainWorld → PlainLink → Type 0
Closed w w' link = (id : ℕ) × (pv pv' : Plain) × HasOpen link.consumer.dialed.vb id link.server.streams × (vb_of w (producer_node link) link.consumer.dialed.vb ≡ Some pv) × StreamsChanged id pv pv'
    × Changed w w' (producer_node link) link.consumer.dialed.vb pv' (row_out link_number (link_number link) w.links) × (shelf_of w' (producer_node link) link.consumer.dialed.vb ≡ shelf_of w (producer_node link) link.consumer.dialed.vb)

abbrev pub BecameOver : PlainWorld → PlainWorld → PlainLink → Type 0
BecameOver w w' link = Relinked w w' (row_out link_number (link_number link) w.links) ⊎ Closed w w' link

-- a link that is found is one of the links, and has the number
abbrev pub FoundIsLink : Type 0
FoundIsLink = (l : ℕ) (links : List PlainLink) (link : PlainLink) → row_at link_number l links ≡ Some link → IsLink link links × (link_number link ≡ l)

-- after it was put another time, it is what was put
abbrev pub PutIsFound : Type 0
PutIsFound = (l : ℕ) (links : List PlainLink) (link link' : PlainLink) → row_at link_number l links ≡ Some link → link_number link' ≡ l → row_at link_number l (row_put link_number l link' links) ≡ Some link'

-- each link is then that one, or an old one of another number
abbrev pub PutLinks : Type 0
PutLinks = (l : ℕ) (links : List PlainLink) (link link' x : PlainLink) → LinksDiffer links → row_at link_number l links ≡ Some link → link_number link' ≡ l → IsLink x (row_put link_number l link' links)
    → (x ≡ link') ⊎ (IsLink x links × (link_number x ≡ l → ⊥))

-- without it, each link is an old one of another number
abbrev pub OutLinks : Type 0
OutLinks = (l : ℕ) (links : List PlainLink) (link x : PlainLink) → LinksDiffer links → row_at link_number l links ≡ Some link → IsLink x (row_out link_number l links)
    → IsLink x links × (link_number x ≡ l → ⊥)

-- put twice is put once
abbrev pub PutTwice : Type 0
PutTwice = (l : ℕ) (links : List PlainLink) (link link' : PlainLink) → link_number link ≡ l → row_put link_number l link' (row_put link_number l link links) ≡ row_put link_number l link' links

-- and put and taken out is taken out
abbrev pub PutOut : Type 0
PutOut = (l : ℕ) (links : List PlainLink) (link : PlainLink) → link_number link ≡ l → row_out link_number l (row_put link_number l link links) ≡ row_out link_number l links

-- a link that is found and put again changes nothing
abbrev pub PutSame : Type 0
PutSame = (l : ℕ) (links : List PlainLink) (link : PlainLink) → row_at link_number l links ≡ Some link → row_put link_number l link links ≡ links
