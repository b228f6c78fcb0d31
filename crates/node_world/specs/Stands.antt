-- what the world that is kept stands for
use Rattle.std.specs.Prelude.{◌≡◌, ◌≢◌, ℕ, ◌/◌, ◌^◌, ◌==◌, ◌&&◌, Bool, true, false, List, Option, Some, None, is_some, IfSome}
use Rattle.std.specs.BTreeMap.{is_at}
use Rattle.std.specs.List.{list_any}
use Rattle.std.specs.Ordering.{nat_cmp}
use Rattle.disk_journals.specs.Seen.{Seen}
use Rattle.disk_journals.specs.Stands.{ShelvesStand}
use Rattle.slab.specs.Slab.{Slab, get}
use Rattle.disk_journals.specs.Books.{AreBooks, Book}
use Rattle.disk_journals.specs.Devices.{fuse_device}
use Rattle.vb_disk.specs.Fused.{FuseStorage}
use Rattle.client_session.specs.Serving.{PlainSession, awaits}
use Rattle.node_core.specs.Clients.{PlainClient, KeptClient}
use Rattle.vbucket.specs.declared.vb_map.VbSlot.{VbSlot}
use Rattle.vbucket.specs.Rows.{row_at}
use Rattle.vbucket.specs.Stands.{SlotsStand}
use Rattle.node_core.specs.declared.conn.Conn.{Conn}
use Rattle.node_core.specs.declared.conn.Conn.TheVariants as conn
use Rattle.node_core.specs.declared.node.Node.{Node}
use Rattle.node_core.specs.Dials.{KeptDial}
use Rattle.node_core.specs.Outcomes.{value_at, live_dial}
use Rattle.node_core.specs.Peers.{PlainPeer, KeptPeer}
use Rattle.node_world.specs.declared.link.Link.{Link}
use Rattle.node_world.specs.declared.script_node.ScriptNode.{ScriptNode}
use Rattle.node_world.specs.Links.{PlainLink, link_number, producer_node, consumer_node, peer_of, dial_of}
use Rattle.node_world.specs.Nodes.{PlainNode, is_one_of}
use Rattle.node_world.specs.Pairing.{Pairs, Differ}
use Rattle.node_world.specs.Worlds.{PlainWorld}

-- the client of a client's connection
abbrev pub client_part : Option Conn → Option KeptClient
client_part (Some (conn.Client kept)) = Some kept
client_part other = None

-- the peer of a peer's connection
abbrev pub peer_part : Option Conn → Option KeptPeer
peer_part (Some (conn.Peer kept)) = Some kept
peer_part other = None

-- a client for which memory was never short
abbrev pub live_client : PlainClient → KeptClient
live_client client = record { plain = client; spent = false }

-- a peer for which memory was never short
abbrev pub live_peer : PlainPeer → KeptPeer
live_peer peer = record { plain = peer; spent = false }

-- a connection, by the key that its number has, stands for the plain one
abbrev pub ClientStands : Slab Conn → Option ℕ → Option PlainClient → Type 0
ClientStands conns None None = Unit {0}
ClientStands conns (Some key) (Some client) = client_part (get conns key) ≡ Some (live_client client)
ClientStands conns None (Some client) = ⊥
ClientStands conns (Some key) None = ⊥

-- the clients under their keys, and the keys by the connections' numbers, stand for the connections: no two numbers have one key, and each client has a number
pub record ClientsStand (keys : List (ℕ × ℕ)) (conns : Slab Conn) (clients : ℕ → Option PlainClient) : Type 0 where
  pub each : (c : ℕ) → ClientStands conns (value_at keys c) (clients c)
  pub apart : (c d key : ℕ) → value_at keys c ≡ Some key → value_at keys d ≡ Some key → c ≡ d
  pub owned : (key : ℕ) → is_some (client_part (get conns key)) ≡ true → (c : ℕ) × (value_at keys c ≡ Some key)

-- a connection has this base, and awaits no outcome but one for a waiter of this base
pub record IsOfBase (base : ℕ) (session : PlainSession) : Type 0 where
  pub own : session.who.base ≡ base
  pub waits : (waiter : ℕ) → awaits waiter session.awaited ≡ true → waiter / 2 ^ 32 ≡ base

-- the base that is kept for a connection, if there is one, is its own
abbrev pub BaseStands : Option PlainClient → Option ℕ → Type 0
BaseStands None base = Unit {0}
BaseStands (Some client) None = ⊥
BaseStands (Some client) (Some base) = IsOfBase base client.session

-- the bases by the connections' numbers are those of the connections
abbrev pub BasesStand : List (ℕ × ℕ) → (ℕ → Option PlainClient) → Type 0
BasesStand bases clients = (c : ℕ) → BaseStands (clients c) (value_at bases c)

-- a node that keeps its journals on disks in memory, under arms
abbrev pub MemNode : Type 0
MemNode = Node (List VbSlot) (List (Seen FuseStorage))

-- a node that is down: its disks bear the records that stand, and no end of a link is there
pub record IsOff (node : ScriptNode) (books : List Book) : Type 0 where
  pub there : is_some node.off ≡ true
  pub bear : IfSome node.off (λ disks. AreBooks disks.items books)
  pub peers : (key : ℕ) → peer_part (get node.node.conns key) ≡ None
  pub dials : (v : ℕ) → value_at node.node.dials v ≡ None

-- the disks of a node beside its journals: a running one has none
abbrev pub OffStands : ScriptNode → Option (List Book) → Type 0
OffStands node None = node.off ≡ None
OffStands node (Some books) = IsOff node books

-- a node stands for a plain one: in its vBuckets and their journals, in how many it made, in its clock, in its client connections and their bases, in its arm, and in its disks while it is down
pub record NodeMatch (node : ScriptNode) (plain : PlainNode) : Type 0 where
  pub slots : SlotsStand node.node.vbs plain.vbs
  pub shelves : ShelvesStand fuse_device node.node.disks plain.shelves
  pub made : node.made ≡ plain.made
  pub clock : node.clock ≡ plain.clock
  pub clients : ClientsStand node.clients node.node.conns plain.clients
  pub bases : BasesStand node.bases plain.clients
  pub arm : node.arm ≡ plain.arm
  pub off : OffStands node plain.off

-- a node is there exactly where the plain one is, and stands for it
abbrev pub NodeStands : Option ScriptNode → Option PlainNode → Type 0
NodeStands None None = Unit {0}
NodeStands (Some node) (Some plain) = NodeMatch node plain
NodeStands None (Some plain) = ⊥
NodeStands (Some node) None = ⊥

-- the node's own number
abbrev pub node_number : ScriptNode → ℕ
node_number node = node.node.number

-- nodes stand for those of a plain world: it is so at every number
abbrev pub NodesStand : List ScriptNode → PlainWorld → Type 0
NodesStand nodes w = (n : ℕ) → NodeStands (row_at node_number n nodes) (w.nodes n)

-- a node's peer under a key
abbrev pub peer_in : Option ScriptNode → ℕ → Option KeptPeer
peer_in None key = None
peer_in (Some node) key = peer_part (get node.node.conns key)

-- a node's dial of a vBucket
abbrev pub dial_in : Option ScriptNode → ℕ → Option KeptDial
dial_in None v = None
dial_in (Some node) v = value_at node.node.dials v

-- the ends of links that nodes keep: the peers, by node and key, and the dials, by node and vBucket
pub record Ends : Type 0 where
  pub peers : ℕ → ℕ → Option KeptPeer
  pub dials : ℕ → ℕ → Option KeptDial

-- those of these nodes
abbrev pub ends_of : List ScriptNode → Ends
ends_of nodes = record { peers = λ n key. peer_in (row_at node_number n nodes) key; dials = λ n v. dial_in (row_at node_number n nodes) v }

-- a link stands for a plain one: in its number, in the ends that its nodes keep, none of them spent, and in the bytes on their way
pub record LinkStands (ends : Ends) (link : Link) (plain : PlainLink) : Type 0 where
  pub number : link.number ≡ link_number plain
  pub producer : link.producer ≡ producer_node plain
  pub node : link.node ≡ consumer_node plain
  pub vb : link.vb ≡ plain.consumer.dialed.vb
  pub server : ends.peers link.producer link.conn ≡ Some (live_peer (peer_of plain))
  pub consumer : ends.dials link.node link.vb ≡ Some (live_dial (dial_of plain))
  pub up : link.up ≡ plain.up
  pub down : link.down ≡ plain.down

-- two links have no number, no producer's connection and no consumer's vBucket in common
pub record Apart (x y : Link) : Type 0 where
  pub number : x.number ≢ y.number
  pub conn : x.producer ≡ y.producer → x.conn ≢ y.conn
  pub dial : x.node ≡ y.node → x.vb ≢ y.vb

-- whether a link's producer stands under this key of the node n
abbrev pub has_peer : List Link → ℕ → ℕ → Bool
has_peer links n key = list_any (λ (link : Link). link.producer == n && link.conn == key) links

-- whether a link's consumer is the dial of the vBucket v of the node n
abbrev pub has_dial : List Link → ℕ → ℕ → Bool
has_dial links n v = list_any (λ (link : Link). link.node == n && link.vb == v) links

-- links stand for plain ones, in their order; any two are apart, and each peer and each dial of a node is a link's
pub record LinksStand (ends : Ends) (links : List Link) (plain : List PlainLink) : Type 0 where
  pub each : Pairs (LinkStands ends) links plain
  pub apart : Differ Apart links
  pub peers : (n key : ℕ) → is_some (ends.peers n key) ≡ true → has_peer links n key ≡ true
  pub dials : (n v : ℕ) → is_some (ends.dials n v) ≡ true → has_dial links n v ≡ true

-- whether an id is among those that were given, which are kept in order
abbrev pub has_id : List ℕ → ℕ → Bool
has_id ids id = list_any (is_at (nat_cmp id)) ids

-- ids that were given stand for those of a list
abbrev pub IdsStand : List ℕ → List ℕ → Type 0
IdsStand ids uuids = (id : ℕ) → has_id ids id ≡ is_one_of id uuids

-- the nodes that are kept, the ids that branches were given, and the links
pub record Kept : Type 0 where
  pub nodes : List ScriptNode
  pub ids : List ℕ
  pub links : List Link

-- the kept world stands for a plain one
pub record WorldStands (kept : Kept) (w : PlainWorld) : Type 0 where
  pub nodes : NodesStand kept.nodes w
  pub ids : IdsStand kept.ids w.uuids
  pub links : LinksStand (ends_of kept.nodes) kept.links w.links

-- the node of this number that is handed out stands for a plain one: in its vBuckets, in the records of their journals, and in its client connections, by numbers that are known to the world
pub record IsNode (n : ℕ) (node : MemNode) (plain : PlainNode) : Type 0 where
  pub number : node.number ≡ n
  pub slots : SlotsStand node.vbs plain.vbs
  pub shelves : ShelvesStand fuse_device node.disks plain.shelves
  pub keys : List (ℕ × ℕ)
  pub clients : ClientsStand keys node.conns plain.clients

-- a node is handed out exactly where there is one of its number that is running, and stands for it
abbrev pub IsNodeIf : ℕ → Option MemNode → Option PlainNode → Type 0
IsNodeIf n None None = Unit {0}
IsNodeIf n (Some node) (Some plain) = (plain.off ≡ None) × IsNode n node plain
IsNodeIf n None (Some plain) = is_some plain.off ≡ true
IsNodeIf n (Some node) None = ⊥
