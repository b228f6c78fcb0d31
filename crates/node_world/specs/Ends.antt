-- what lines make of a node that is kept, and of the ends of links that it keeps
use Rattle.std.specs.Prelude.{◌≡◌, ◌≢◌, ℕ, ◌==◌, ◌&&◌, not, Bool, true, false, List, [], ◌++◌, Option, Some, None, is_some, if◌then◌else◌, get_or, Result, Ok, Err}
use Rattle.std.specs.List.{fold, position, remove}
use Rattle.std.specs.Option.{option_map}
use Rattle.slab.specs.Slab.{get}
use Rattle.vb_events.specs.declared.event.StreamName.TheVariants as name
use Rattle.vb_types.specs.declared.stream.StreamAsk.{StreamAsk}
use Rattle.vb_events.specs.declared.event.Cause.{Cause}
use Rattle.vb_calls.specs.Jobs.{after_job}
use Rattle.vb_calls.specs.Programs.{after}
use Rattle.dcp_consumer.specs.Dialing.{requests}
use Rattle.dcp_consumer.specs.declared.handshake.Dialed.{Dialed}
use Rattle.dcp_producer.specs.declared.yields.Yielded.{Yielded}
use Rattle.dcp_producer.specs.Dropping.{cursor_dropped}
use Rattle.dcp_producer.specs.Ending.{end_closed}
use Rattle.node_core.specs.declared.admin.AdminCall.{AdminCall}
use Rattle.node_core.specs.declared.out.NodeOut.{NodeOut}
use Rattle.node_core.specs.Calls.{dial_requested}
use Rattle.node_core.specs.Clients.{PlainClient, KeptClient, client_ended}
use Rattle.node_core.specs.Dials.{PlainDial, KeptDial, DialResult, new_dial, dial_bytes, dial_due}
use Rattle.node_core.specs.GivingUp.{GiveResult, given_out, peer_gives_up}
use Rattle.node_core.specs.Outcomes.{value_at, live_dial, dial_left}
use Rattle.node_core.specs.Outs.{refused_out, done_out, pull_out, dial_out, cut_out, dial_ended, admin_out, dropped_out}
use Rattle.node_core.specs.Peers.{PlainPeer, KeptPeer, new_peer, peer_pulled, peer_ended}
use Rattle.node_world.specs.declared.link.Link.{Link}
use Rattle.script_text.specs.declared.verb.LinkVerb.{LinkVerb}
use Rattle.node_world.specs.declared.script_node.ScriptNode.{ScriptNode}
use Rattle.node_world.specs.declared.told.Told.{Told}
use Rattle.node_world.specs.Cuts.{closed_in}
use Rattle.node_world.specs.Lines.{at_link}
use Rattle.mcbp_frame.specs.declared.frame.Frame.{Frame}
use Rattle.node_world.specs.Links.{PlainLink, frame_posted, peer_given, producer_node, peer_of}
use Rattle.node_world.specs.Arms.{lifted, placed, under_arm}
use Rattle.node_world.specs.Nodes.{PlainNode, all_posted, bad_chain_causes, first_cause, posted, posted_if, with_disk, with_kept, with_states}
use Rattle.vb_calls.specs.declared.calls.Resolved.{Resolved}
use Rattle.vb_events.specs.declared.event.Event.{Event}
use Rattle.node_world.specs.Stands.{node_number, peer_part, live_peer, NodeMatch, NodesStand, Ends, ends_of, LinkStands, Kept}
use Rattle.node_world.specs.Turns.{called_at}
use Rattle.node_world.specs.Worlds.{PlainWorld}

-- the peer under a key
abbrev pub peer_under : ScriptNode → ℕ → Option KeptPeer
peer_under node key = peer_part (get node.node.conns key)

-- the dial of a vBucket
abbrev pub dial_under : ScriptNode → ℕ → Option KeptDial
dial_under node v = value_at node.node.dials v

-- all peers and dials stay
pub record KeepsEnds (old new : ScriptNode) : Type 0 where
  pub number : node_number new ≡ node_number old
  pub peers : (key : ℕ) → peer_under new key ≡ peer_under old key
  pub dials : (v : ℕ) → dial_under new v ≡ dial_under old v

-- this peer is under the key now, or none, and all else stays
pub record PutsPeer (old new : ScriptNode) (key : ℕ) (peer : Option KeptPeer) : Type 0 where
  pub number : node_number new ≡ node_number old
  pub changed : peer_under new key ≡ peer
  pub others : (other : ℕ) → other ≢ key → peer_under new other ≡ peer_under old other
  pub dials : (v : ℕ) → dial_under new v ≡ dial_under old v

-- the vBucket has this dial now, or none, and all else stays
pub record PutsDial (old new : ScriptNode) (v : ℕ) (dial : Option KeptDial) : Type 0 where
  pub number : node_number new ≡ node_number old
  pub changed : dial_under new v ≡ dial
  pub others : (other : ℕ) → other ≢ v → dial_under new other ≡ dial_under old other
  pub peers : (key : ℕ) → peer_under new key ≡ peer_under old key

-- a peer, where a change of role at the vBucket v ended the streams of these numbers, if there was one
abbrev pub kept_peer_ended : ℕ → Option (List ℕ) → KeptPeer → KeptPeer
kept_peer_ended v None kept = kept
kept_peer_ended v (Some ids) kept = record kept { plain = peer_ended v ids kept.plain }

-- a client, where a change of role at the vBucket v ended the streams of these numbers, if there was one
abbrev pub kept_client_ended : ℕ → Option (List ℕ) → KeptClient → KeptClient
kept_client_ended v None kept = kept
kept_client_ended v (Some ids) kept = record kept { plain = client_ended v ids kept.plain }

-- so are clients by their numbers
abbrev pub clients_ended : ℕ → Option (List ℕ) → (ℕ → Option PlainClient) → ℕ → Option PlainClient
clients_ended v None clients = clients
clients_ended v (Some ids) clients = λ c. option_map (client_ended v ids) (clients c)

-- the node with its clients told so
abbrev pub with_clients_told : ℕ → Option (List ℕ) → PlainNode → PlainNode
with_clients_told v ended node = record node { clients = clients_ended v ended node.clients }

-- each peer is told which streams a change of role at the vBucket v ended, and the vBucket's dial is let go, if there was one
pub record TellsEnds (old new : ScriptNode) (v : ℕ) (ended : Option (List ℕ)) : Type 0 where
  pub number : node_number new ≡ node_number old
  pub peers : (key : ℕ) → peer_under new key ≡ option_map (kept_peer_ended v ended) (peer_under old key)
  pub dials : (other : ℕ) → dial_under new other ≡ (if is_some ended && other == v then None else dial_under old other)

-- a line that the node carries out as f says of the plain one
abbrev pub Carries : (PlainNode → PlainNode × Told) → ScriptNode → Told → ScriptNode → Type 0
Carries f old told new = (plain : PlainNode) → NodeMatch old plain → NodeMatch new (f plain).0 × (told ≡ (f plain).1) × KeepsEnds old new

-- whether there is a vBucket of a number
abbrev pub IsThere : ℕ → ScriptNode → Bool → ScriptNode → Type 0
IsThere v old there new =
    ((plain : PlainNode) → NodeMatch old plain → NodeMatch new plain × (there ≡ is_some (plain.vbs v))) × KeepsEnds old new × (new.made ≡ old.made)

-- the node becomes what f makes of the plain one, and all ends of links stay
abbrev pub Becomes : (PlainNode → PlainNode) → ScriptNode → ScriptNode → Type 0
Becomes f old new = ((plain : PlainNode) → NodeMatch old plain → NodeMatch new (f plain)) × KeepsEnds old new × (new.made ≡ old.made)

-- a blank journal is added for the vBucket v, where it has none
abbrev pub AddsShelf : ℕ → ScriptNode → ScriptNode → Type 0
AddsShelf v old new = Becomes (λ plain. with_disk plain v) old new

-- the node's arm is put over the disk of the vBucket v
abbrev pub PlacesArm : ℕ → ScriptNode → ScriptNode → Type 0
PlacesArm v old new = Becomes (placed v) old new

-- what is left of it is taken off that disk
abbrev pub LiftsArm : ℕ → ScriptNode → ScriptNode → Type 0
LiftsArm v old new = Becomes (lifted v) old new

-- an operator's call that gives the vBucket v another role, unless it is refused
abbrev pub SetsRole : ℕ → AdminCall → ScriptNode → NodeOut → ScriptNode → Type 0
SetsRole v asked old out new = (plain : PlainNode) → NodeMatch old plain →
    let (node, told) = under_arm v (called_at (node_number old) v asked) plain in
    NodeMatch new (with_clients_told v told.ended node) × (out ≡ admin_out (dial_ended told.ended (dial_under old v)) told) × TellsEnds old new v told.ended

-- the connection of a link's producer is opened, at a node that is running
abbrev pub OpensPeer : ℕ → ℕ → ScriptNode → ℕ → ScriptNode → Type 0
OpensPeer link base old key new =
    ((plain : PlainNode) → NodeMatch old plain → plain.off ≡ None → NodeMatch new plain) × (peer_under old key ≡ None)
    × PutsPeer old new key (Some (live_peer (new_peer (record { stream = name.Link link; node = node_number old; base = base }))))

-- the producer under a key is given bytes
abbrev pub FeedsPeer : ℕ → List ℕ → ScriptNode → NodeOut → ScriptNode → Type 0
FeedsPeer key piece old out new = (plain : PlainNode) (peer : PlainPeer) → NodeMatch old plain → peer_under old key ≡ Some (live_peer peer) →
    let (node, told) = peer_given piece peer plain in
    NodeMatch new node × (out ≡ done_out told.events told.out) × PutsPeer old new key (Some (live_peer told.peer))

-- the producer under a key puts frames of its streams
abbrev pub PullsPeer : ℕ → ℕ → ScriptNode → NodeOut → ScriptNode → Type 0
PullsPeer key frames old out new = (plain : PlainNode) (peer : PlainPeer) → NodeMatch old plain → peer_under old key ≡ Some (live_peer peer) →
    let (kept, told) = after_job (peer_pulled frames peer) plain.vbs plain.shelves in
    NodeMatch new (with_kept plain kept) × (out ≡ pull_out told) × PutsPeer old new key (Some (live_peer told.peer))

-- the cursor of the stream of the vBucket v of the producer under a key is taken away
abbrev pub DropsPeer : ℕ → ℕ → ScriptNode → NodeOut → ScriptNode → Type 0
DropsPeer key v old out new = (plain : PlainNode) (peer : PlainPeer) → NodeMatch old plain → peer_under old key ≡ Some (live_peer peer) →
    let (states, had) = after (cursor_dropped v peer.producer) plain.vbs in
    NodeMatch new (with_states plain states) × (out ≡ dropped_out had) × KeepsEnds old new

-- a peer, once vBuckets were given up: it is told which streams ended with each
abbrev pub kept_peer_yielded : KeptPeer → Yielded → KeptPeer
kept_peer_yielded kept one = kept_peer_ended one.vb (Some one.ended) kept

abbrev pub kept_peer_given : List Yielded → KeptPeer → KeptPeer
kept_peer_given given kept = fold kept_peer_yielded kept given

-- and so is the node, of its clients
abbrev pub with_clients_yielded : PlainNode → Yielded → PlainNode
with_clients_yielded node one = with_clients_told one.vb (Some one.ended) node

abbrev pub with_clients_given : List Yielded → PlainNode → PlainNode
with_clients_given given node = fold with_clients_yielded node given

-- the peer under a key gave vBuckets up, and each peer, also itself, is told which streams ended with that; the dials stay
pub record TellsGiven (old new : ScriptNode) (key : ℕ) (came : GiveResult) : Type 0 where
  pub number : node_number new ≡ node_number old
  pub own : peer_under new key ≡ Some (kept_peer_given came.given (live_peer came.peer))
  pub others : (other : ℕ) → other ≢ key → peer_under new other ≡ option_map (kept_peer_given came.given) (peer_under old other)
  pub dials : (v : ℕ) → dial_under new v ≡ dial_under old v

-- the streams of the producer under a key give vBuckets up, in front of so many frames
abbrev pub GivesPeer : ℕ → ℕ → ScriptNode → NodeOut → ScriptNode → Type 0
GivesPeer key frames old out new = (plain : PlainNode) (peer : PlainPeer) → NodeMatch old plain → peer_under old key ≡ Some (live_peer peer) →
    let (states, came) = after (peer_gives_up frames peer) plain.vbs in
    NodeMatch new (with_clients_given came.given (with_states plain states)) × (out ≡ given_out (node_number old) came.given) × TellsGiven old new key came

-- the producer under a key answers a frame, and what became of durable writes with it is told to who awaits it
abbrev pub AnswersPeer : ℕ → Frame → ScriptNode → NodeOut → ScriptNode → Type 0
AnswersPeer key f old out new = (plain : PlainNode) (peer : PlainPeer) → NodeMatch old plain → peer_under old key ≡ Some (live_peer peer) →
    let (node, told) = frame_posted f peer plain in
    NodeMatch new node × (out ≡ done_out told.events told.out) × PutsPeer old new key (Some (live_peer told.peer))

-- outcomes were told to who awaits them, and these lines tell of it
abbrev pub PostsSo : (PlainNode → PlainNode × List Event) → ScriptNode → List Event → ScriptNode → Type 0
PostsSo f old lines new = (plain : PlainNode) → NodeMatch old plain → NodeMatch new (f plain).0 × (lines ≡ (f plain).1) × KeepsEnds old new

-- an outcome was told to the connection of a number, if there is one
abbrev pub PostsTo : ℕ → Resolved → ScriptNode → List Event → ScriptNode → Type 0
PostsTo c outcome old lines new = PostsSo (λ plain. posted_if c outcome plain (plain.clients c)) old lines new

-- an outcome was told to who awaits it
abbrev pub Posts : Resolved → ScriptNode → List Event → ScriptNode → Type 0
Posts outcome old lines new = PostsSo (posted outcome) old lines new

-- outcomes were told, one after the other, and lines are appended
abbrev pub PostsAll : List Resolved → ScriptNode → List Event → ScriptNode → List Event → Type 0
PostsAll outcomes old before new lines = (more : List Event) × (lines ≡ before ++ more) × PostsSo (all_posted outcomes) old more new

-- why a chain that can't be one is refused; nothing changes
abbrev pub RefusesChain : ℕ → ScriptNode → Cause → ScriptNode → Type 0
RefusesChain v old why new = (plain : PlainNode) → NodeMatch old plain → NodeMatch new plain × (Some why ≡ first_cause (bad_chain_causes v plain)) × KeepsEnds old new

-- the connection of the producer under a key is closed
abbrev pub ShutsPeer : ℕ → ScriptNode → ScriptNode → Type 0
ShutsPeer key old new = (plain : PlainNode) (peer : PlainPeer) → NodeMatch old plain → peer_under old key ≡ Some (live_peer peer) →
    NodeMatch new (with_states plain (after (end_closed peer.producer) plain.vbs).0) × PutsPeer old new key None

-- the dial of a vBucket that was asked for this, unless that was refused
abbrev pub DialCame : Dialed → Result StreamAsk Cause → ScriptNode → NodeOut → ScriptNode → Type 0
DialCame dialed (Err why) old out new = (out ≡ refused_out why) × KeepsEnds old new
DialCame dialed (Ok ask) old out new = (out ≡ done_out [] (requests dialed ask)) × PutsDial old new dialed.vb (Some (live_dial (new_dial dialed)))

-- the vBucket v of a node that is running dials, as the consumer of a link, with a window of this size, to follow or to take over
abbrev pub DialsFor : ℕ → ℕ → ℕ → Bool → Bool → ScriptNode → NodeOut → ScriptNode → Type 0
DialsFor v link buffer takeover is_free old out new = (plain : PlainNode) → NodeMatch old plain → plain.off ≡ None →
    let (states, said) = after (dial_requested v (is_free && not (is_some (dial_under old v)))) plain.vbs in
    NodeMatch new (with_states plain states) × DialCame (record { link = link; node = node_number old; vb = v; buffer = buffer; takeover = takeover }) said old out new

-- a node after bytes for a dial of it
abbrev pub dial_given : List ℕ → PlainDial → PlainNode → PlainNode × DialResult
dial_given piece dial node = let (kept, told) = after_job (dial_bytes piece dial) node.vbs node.shelves in (with_kept node kept, told)

-- the consumer of a vBucket is given bytes
abbrev pub FeedsDial : ℕ → List ℕ → ScriptNode → NodeOut → ScriptNode → Type 0
FeedsDial v piece old out new = (plain : PlainNode) (dial : PlainDial) → NodeMatch old plain → dial_under old v ≡ Some (live_dial dial) →
    let (node, told) = under_arm v (dial_given piece dial) plain in
    NodeMatch new node × (out ≡ dial_out told) × PutsDial old new v (dial_left told.dial)

-- more of the vBucket v is written down, and its dial acknowledged what is due then
abbrev pub DuesDial : ℕ → ScriptNode → NodeOut → ScriptNode → Type 0
DuesDial v old out new = (plain : PlainNode) (dial : PlainDial) → NodeMatch old plain → dial_under old v ≡ Some (live_dial dial) →
    let (states, told) = after (dial_due dial) plain.vbs in
    NodeMatch new (with_states plain states) × (out ≡ done_out told.events told.out) × PutsDial old new v (Some (live_dial told.dial))

-- the dial of a vBucket is let go
abbrev pub CutsDial : ℕ → ScriptNode → NodeOut → ScriptNode → Type 0
CutsDial v old out new = (plain : PlainNode) (dial : PlainDial) → NodeMatch old plain → dial_under old v ≡ Some (live_dial dial) →
    NodeMatch new plain × (out ≡ cut_out dial) × PutsDial old new v None

-- but for one link's, all ends that nodes keep stay
pub record KeepsOthers (link : Link) (old new : Ends) : Type 0 where
  pub peers : (n key : ℕ) → (n == link.producer && key == link.conn) ≡ false → new.peers n key ≡ old.peers n key
  pub dials : (n v : ℕ) → (n == link.node && v == link.vb) ≡ false → new.dials n v ≡ old.dials n v

-- a link of which only the bytes on their way are others
pub record SameKeys (old new : Link) : Type 0 where
  pub number : new.number ≡ old.number
  pub producer : new.producer ≡ old.producer
  pub conn : new.conn ≡ old.conn
  pub node : new.node ≡ old.node
  pub vb : new.vb ≡ old.vb

-- what a link is after a line, and whether it is over: then its dial is let go, and its peer is as before
abbrev pub LinkLeft : Ends → Link → PlainLink → Bool → Option PlainLink → Type 0
LinkLeft ends link before over None = (over ≡ true) × (ends.dials link.node link.vb ≡ None) × (ends.peers link.producer link.conn ≡ Some (live_peer (peer_of before)))
LinkLeft ends link before over (Some plain) = (over ≡ false) × LinkStands ends link plain

-- what a line for a link comes to, where the nodes stand for those of this world and the link for this one
pub record LinkCame (asked : LinkVerb) (w : PlainWorld) (plain : PlainLink) (nodes : List ScriptNode) (link : Link) (told : Told) (over : Bool) (nodes' : List ScriptNode) (link' : Link) : Type 0 where
  pub stands : NodesStand nodes' (at_link asked w plain).0
  pub others : KeepsOthers link (ends_of nodes) (ends_of nodes')
  pub said : told ≡ (at_link asked w plain).1.1
  pub left : LinkLeft (ends_of nodes') link' plain over (at_link asked w plain).1.0

-- a line for a link, carried out at the nodes that keep its ends
pub record LinkStep (asked : LinkVerb) (nodes : List ScriptNode) (link : Link) (told : Told) (over : Bool) (nodes' : List ScriptNode) (link' : Link) : Type 0 where
  pub keys : SameKeys link link'
  pub came : (w : PlainWorld) (plain : PlainLink) → NodesStand nodes w → LinkStands (ends_of nodes) link plain → LinkCame asked w plain nodes link told over nodes' link'

-- what is left where a link's connection at its producer's node was closed
pub record Unlinked (link : Link) (plain : PlainLink) (w : PlainWorld) (nodes nodes' : List ScriptNode) : Type 0 where
  pub stands : NodesStand nodes' (closed_in plain w)
  pub gone : (ends_of nodes').peers link.producer link.conn ≡ None
  pub others : (n key : ℕ) → (n == link.producer && key == link.conn) ≡ false → (ends_of nodes').peers n key ≡ (ends_of nodes).peers n key
  pub dials : (n v : ℕ) → (ends_of nodes').dials n v ≡ (ends_of nodes).dials n v

-- a link's connection at its producer's node is closed
abbrev pub Unlinks : Link → List ScriptNode → List ScriptNode → Type 0
Unlinks link nodes nodes' = (w : PlainWorld) (plain : PlainLink) → NodesStand nodes w → link.producer ≡ producer_node plain
    → (ends_of nodes).peers link.producer link.conn ≡ Some (live_peer (peer_of plain)) → Unlinked link plain w nodes nodes'

-- a link that is over is taken out from its place, and its connection at its producer's node is closed
abbrev pub LeavesLink : ℕ → Bool → Kept → Kept → Type 0
LeavesLink at false old new = new ≡ old
LeavesLink at true old new = ((link : Link) → link ≡ get_or old.links at link → Unlinks link old.nodes new.nodes) × (new.links ≡ remove old.links at) × (new.ids ≡ old.ids)

-- so is the link that feeds a vBucket, where there is one
abbrev pub LeavesOwn : ℕ → ℕ → Bool → Kept → Kept → Type 0
LeavesOwn n v false old new = new ≡ old
LeavesOwn n v true old new = (at : ℕ) → position (λ (link : Link). link.node == n && link.vb == v) old.links ≡ Some at → LeavesLink at true old new
