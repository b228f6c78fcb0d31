-- what each call of a node comes to, by what its access to vBuckets tells
use Rattle.std.specs.Prelude.{◌≡◌, ◌≢◌, ◌⊎◌, ℕ, ◌==◌, Bool, true, false, ◌&&◌, not, if◌then◌else◌, List, [], Option, Some, None, is_some, Result, Ok, Err}
use Rattle.std.specs.Option.{option_map}
use Rattle.std.specs.BTreeMap.{is_at}
use Rattle.std.specs.Map.{lookup}
use Rattle.std.specs.Ordering.{nat_cmp}
use Rattle.slab.specs.Slab.{get, Updates}
use Rattle.client_session.specs.Serving.{awaits}
use Rattle.dcp_producer.specs.Dropping.{cursor_dropped}
use Rattle.dcp_producer.specs.Ending.{end_closed}
use Rattle.dcp_producer.specs.Producers.{PlainProducer}
use Rattle.dcp_consumer.specs.Dialing.{requests}
use Rattle.dcp_consumer.specs.declared.handshake.Dialed.{Dialed as Link}
use Rattle.vb_events.specs.declared.event.Cause.{Cause}
use Rattle.vb_events.specs.declared.event.Cause.TheVariants as cause
use Rattle.vb_types.specs.declared.role.Role.{Role}
use Rattle.vb_types.specs.declared.stream.StreamAsk.{StreamAsk}
use Rattle.vb_calls.specs.declared.calls.VbCall.{VbCall}
use Rattle.vb_calls.specs.declared.calls.VbReply.{VbReply}
use Rattle.vb_calls.specs.Flushes.{wrote_of}
use Rattle.vb_calls.specs.Jobs.{RanJob, BeganJob, IsUnasked}
use Rattle.vb_calls.specs.Programs.{Prog, Ran, Began}
use Rattle.vb_calls.specs.Shelves.{Append, Ask, Fate, Got}
use Rattle.vb_calls.specs.State.{first_log}
use Rattle.vb_types.specs.declared.journal.FlushPart.{FlushPart}
use Rattle.vb_types.specs.declared.journal.Record.TheVariants.{State}
use Rattle.node_core.specs.declared.admin.AdminCall.{AdminCall}
use Rattle.node_core.specs.declared.conn.Conn.{Conn}
use Rattle.node_core.specs.declared.conn.Conn.TheVariants as conn
use Rattle.node_core.specs.declared.conn.ConnKind.{ConnKind}
use Rattle.node_core.specs.declared.conn.ConnKind.TheVariants as kind
use Rattle.node_core.specs.declared.node.Node.{Node}
use Rattle.node_core.specs.declared.out.NodeOut.{NodeOut}
use Rattle.node_core.specs.Admin.{AdminResult, admin_job}
use Rattle.node_core.specs.Calls.{dial_requested}
use Rattle.node_core.specs.Clients.{PlainClient, KeptClient, ClientPulled, Handling, new_client, client_fed, client_posted, client_pulled, client_ended}
use Rattle.node_core.specs.Dials.{PlainDial, KeptDial, DialResult, new_dial, is_over, dial_bytes, dial_due}
use Rattle.node_core.specs.Flushing.{FlushResult, flush_at}
use Rattle.node_core.specs.Outs.{flush_out, refused_out, done_out, made_out, client_out, client_pull_out, peer_out, pull_out, dial_out, cut_out, dial_ended, admin_out, dropped_out}
use Rattle.node_core.specs.Peers.{PlainPeer, KeptPeer, PeerResult, PullResult, new_peer, peer_heard, peer_frames, peer_answered, peer_pulled, peer_ended}
use Rattle.mcbp_frame.specs.declared.frame.Frame.{Frame}
use Rattle.vb_calls.specs.declared.calls.Resolved.{Resolved}

-- What is known of an access that is given to a node.
abbrev pub Step : Type 0 → Type 1
Step W = W → ℕ → VbCall → Option VbReply → W → Type 0

-- the value of a number, by the entries of a map ordered by numbers
abbrev pub value_at : {T : Type 0} → List (ℕ × T) → ℕ → Option T
value_at rows number = lookup (is_at (nat_cmp number)) rows

-- the number has this value now, and every other what it had
pub record Renumbered {T : Type 0} (old new : List (ℕ × T)) (number : ℕ) (value : Option T) : Type 0 where
  pub changed : value_at new number ≡ value
  pub others : (other : ℕ) → other ≢ number → value_at new other ≡ value_at old other

-- a client's connection for which memory was never short
abbrev pub client_conn : PlainClient → Conn
client_conn client = conn.Client (record { plain = client; spent = false })

-- a peer's connection for which memory was never short
abbrev pub peer_conn : PlainPeer → Conn
peer_conn peer = conn.Peer (record { plain = peer; spent = false })

-- a dial for which memory was never short
abbrev pub live_dial : PlainDial → KeptDial
live_dial dial = record { plain = dial; spent = false }

-- memory was short for a connection
abbrev pub is_spent : Conn → Bool
is_spent (conn.Client kept) = kept.spent
is_spent (conn.Peer kept) = kept.spent

-- the producer of a connection
abbrev pub producer_in : Conn → PlainProducer
producer_in (conn.Client kept) = kept.plain.producer
producer_in (conn.Peer kept) = kept.plain.producer

-- what is left of a connection where memory was short: a client's or a peer's as before, at its desk, and one that was spent before stays as it is
abbrev pub LeftOf : Conn → Conn → Type 0
LeftOf (conn.Client kept) (conn.Client left) = (left.plain.producer.desk ≡ kept.plain.producer.desk) × (kept.spent ≡ true → left ≡ kept)
LeftOf (conn.Peer kept) (conn.Peer left) = (left.plain.producer.desk ≡ kept.plain.producer.desk) × (kept.spent ≡ true → left ≡ kept)
LeftOf kept left = ⊥

-- a new connection of the node n
abbrev pub new_conn : ℕ → ConnKind → Conn
new_conn n (kind.Client client base) = client_conn (new_client (record { node = n; client = client; base = base }))
new_conn n (kind.Peer stream base) = peer_conn (new_peer (record { stream = stream; node = n; base = base }))

-- a connection, where a change of role at the vBucket v ended the streams of these numbers, if there was one
abbrev pub conn_ended : ℕ → Option (List ℕ) → Conn → Conn
conn_ended v None c = c
conn_ended v (Some ids) (conn.Client kept) = conn.Client (record kept { plain = client_ended v ids kept.plain })
conn_ended v (Some ids) (conn.Peer kept) = conn.Peer (record kept { plain = peer_ended v ids kept.plain })

-- the outcome of the durable write of this waiter is awaited at a connection
abbrev pub conn_awaits : ℕ → Option Conn → Bool
conn_awaits waiter (Some (conn.Client kept)) = awaits waiter kept.plain.session.awaited
conn_awaits waiter other = false

-- a connection was given bytes, and these are the frames that are whole now: it is a peer's and was not spent. There are none for any other connection
abbrev pub ConnHeard : List ℕ → Option Conn → List Frame → Option Conn → Type 0
ConnHeard piece (Some (conn.Peer kept)) frames left = (kept.spent ≡ false) × (frames ≡ peer_frames piece kept.plain) × (left ≡ Some (peer_conn (peer_heard piece kept.plain)))
ConnHeard piece found frames left = (frames ≡ []) × (left ≡ found)

-- the connection of a key was given bytes
pub record Heard {W J : Type 0} (key : ℕ) (piece : List ℕ) (old : Node W J) (frames : List Frame) (new : Node W J) : Type 0 where
  pub left : Option Conn
  pub heard : ConnHeard piece (get old.conns key) frames left
  pub conns : Updates old.conns new.conns key left
  pub rest : new ≡ record old { conns = new.conns }

-- memory was short while the peer of a key was given bytes: it is spent
pub record Unheard {W J : Type 0} (key : ℕ) (old new : Node W J) : Type 0 where
  pub found : Conn
  pub left : Conn
  pub had : get old.conns key ≡ Some found
  pub spent : is_spent left ≡ true
  pub stays : LeftOf found left
  pub conns : Updates old.conns new.conns key (Some left)
  pub rest : new ≡ record old { conns = new.conns }

-- a connection, unless it is closed
abbrev pub kept_unless : Bool → Conn → Option Conn
kept_unless closed c = if closed then None else Some c

-- a vBucket was asked, to dial: the dial that there is now, and the requests for its producer, or why there is none
abbrev pub DialedAs : Link → Result StreamAsk Cause → List (ℕ × KeptDial) → NodeOut → List (ℕ × KeptDial) → Type 0
DialedAs link (Err why) old out new = (out ≡ refused_out why) × (new ≡ old)
DialedAs link (Ok ask) old out new = (out ≡ done_out [] (requests link ask)) × Renumbered old new link.vb (Some (live_dial (new_dial link)))

-- a dial, unless it is over
abbrev pub dial_left : PlainDial → Option KeptDial
dial_left dial = if is_over dial then None else Some (live_dial dial)

module _ {W : Type 0} (step : W → ℕ → VbCall → Option VbReply → W → Type 0) where
  -- a client's connection was given bytes: it was not spent, and went through them
  abbrev pub ClientFed : ℕ → List ℕ → KeptClient → W → NodeOut → KeptClient → W → Type 0
  ClientFed clock piece kept old out left new =
      (kept.spent ≡ false) × (left.spent ≡ false)
      × ((h : Handling) × Ran step (client_fed clock piece kept.plain) old h new × (out ≡ client_out h) × (left.plain ≡ h.client))

  -- a client's connection was told what became of a durable write: it was not spent, and went on
  abbrev pub ClientPosted : ℕ → Resolved → KeptClient → W → NodeOut → KeptClient → W → Type 0
  ClientPosted clock outcome kept old out left new =
      (kept.spent ≡ false) × (left.spent ≡ false)
      × ((h : Handling) × Ran step (client_posted clock outcome kept.plain) old h new × (out ≡ client_out h) × (left.plain ≡ h.client))

  -- a peer's frame was answered
  abbrev pub PeerAnswered : Frame → KeptPeer → W → NodeOut → KeptPeer → W → Type 0
  PeerAnswered f kept old out left new =
      (kept.spent ≡ false) × (left.spent ≡ false)
      × ((told : PeerResult) × Ran step (peer_answered f kept.plain) old told new × (out ≡ peer_out told) × (left.plain ≡ told.peer))

  -- a client's connection was given bytes: this is what it handed out, and what became of it. A peer's takes none so
  abbrev pub ConnFed : ℕ → List ℕ → Conn → W → NodeOut → Conn → W → Type 0
  ConnFed clock piece (conn.Client kept) old out (conn.Client left) new = ClientFed clock piece kept old out left new
  ConnFed clock piece (conn.Client kept) old out (conn.Peer left) new = ⊥
  ConnFed clock piece (conn.Peer kept) old out left new = (new ≡ old) × (out ≡ refused_out cause.LinkClosed) × (left ≡ conn.Peer kept)

  -- the same of an outcome
  abbrev pub ConnPosted : ℕ → Resolved → Conn → W → NodeOut → Conn → W → Type 0
  ConnPosted clock outcome (conn.Client kept) old out (conn.Client left) new = ClientPosted clock outcome kept old out left new
  ConnPosted clock outcome (conn.Client kept) old out (conn.Peer left) new = ⊥
  ConnPosted clock outcome (conn.Peer kept) old out left new = (new ≡ old) × (out ≡ refused_out cause.LinkClosed) × (left ≡ conn.Peer kept)

  -- a peer's connection was asked to answer a frame. A client's answers none so
  abbrev pub ConnAnswered : Frame → Conn → W → NodeOut → Conn → W → Type 0
  ConnAnswered f (conn.Peer kept) old out (conn.Peer left) new = PeerAnswered f kept old out left new
  ConnAnswered f (conn.Peer kept) old out (conn.Client left) new = ⊥
  ConnAnswered f (conn.Client kept) old out left new = (new ≡ old) × (out ≡ refused_out cause.LinkClosed) × (left ≡ conn.Client kept)

  -- memory was short while a client's connection was given bytes: it began them, unless it was spent already
  abbrev pub ClientStopped : ℕ → List ℕ → KeptClient → W → W → Type 0
  ClientStopped clock piece kept old new = (kept.spent ≡ true → new ≡ old) × Began step (client_fed clock piece kept.plain) old new

  -- memory was short while a client's connection was given bytes
  abbrev pub ConnStopped : ℕ → List ℕ → Conn → W → W → Type 0
  ConnStopped clock piece (conn.Client kept) old new = ClientStopped clock piece kept old new
  ConnStopped clock piece (conn.Peer kept) old new = ⊥

  -- memory was short while a client's connection was told what became of a durable write
  abbrev pub ConnUnposted : ℕ → Resolved → Conn → W → W → Type 0
  ConnUnposted clock outcome (conn.Client kept) old new = (kept.spent ≡ true → new ≡ old) × Began step (client_posted clock outcome kept.plain) old new
  ConnUnposted clock outcome (conn.Peer kept) old new = ⊥

  -- memory was short while a peer's connection answered a frame
  abbrev pub ConnUnanswered : Frame → Conn → W → W → Type 0
  ConnUnanswered f (conn.Peer kept) old new = (kept.spent ≡ true → new ≡ old) × Began step (peer_answered f kept.plain) old new
  ConnUnanswered f (conn.Client kept) old new = ⊥

  -- a connection was let go: its streams are closed at their vBuckets
  abbrev pub ConnShut : Conn → W → W → Type 0
  ConnShut (conn.Client kept) old new = Ran step (end_closed kept.plain.producer) old tt new
  ConnShut (conn.Peer kept) old new = Ran step (end_closed kept.plain.producer) old tt new

module _ {W J : Type 0} (step : W → ℕ → VbCall → Option VbReply → W → Type 0) where
  -- a connection has this key
  pub record Fed (clock key : ℕ) (piece : List ℕ) (found : Conn) (old : Node W J) (out : NodeOut) (new : Node W J) : Type 0 where
    pub left : Conn
    pub fed : ConnFed step clock piece found old.vbs out left new.vbs
    pub conns : Updates old.conns new.conns key (kept_unless out.closed left)
    pub rest : new ≡ record old { vbs = new.vbs; conns = new.conns }

  -- bytes for the connection of a key; where there is none, they are refused
  abbrev pub FedAt : ℕ → ℕ → List ℕ → Option Conn → Node W J → NodeOut → Node W J → Type 0
  FedAt clock key piece None old out new = (out ≡ refused_out cause.LinkClosed) × (new ≡ old)
  FedAt clock key piece (Some found) old out new = Fed clock key piece found old out new

  -- memory was short while the connection of a key was given bytes: it is spent, and stays what it is, under its key
  pub record Stopped (clock key : ℕ) (piece : List ℕ) (old new : Node W J) : Type 0 where
    pub found : Conn
    pub left : Conn
    pub had : get old.conns key ≡ Some found
    pub stopped : ConnStopped step clock piece found old.vbs new.vbs
    pub spent : is_spent left ≡ true
    pub stays : LeftOf found left
    pub conns : Updates old.conns new.conns key (Some left)
    pub rest : new ≡ record old { vbs = new.vbs; conns = new.conns }

  -- a connection has this key, and the client there was told what became of a durable write
  pub record Posted (clock key : ℕ) (outcome : Resolved) (found : Conn) (old : Node W J) (out : NodeOut) (new : Node W J) : Type 0 where
    pub left : Conn
    pub posted : ConnPosted step clock outcome found old.vbs out left new.vbs
    pub conns : Updates old.conns new.conns key (kept_unless out.closed left)
    pub rest : new ≡ record old { vbs = new.vbs; conns = new.conns }

  -- an outcome for the connection of a key; where there is none, it is refused
  abbrev pub PostedAt : ℕ → ℕ → Resolved → Option Conn → Node W J → NodeOut → Node W J → Type 0
  PostedAt clock key outcome None old out new = (out ≡ refused_out cause.LinkClosed) × (new ≡ old)
  PostedAt clock key outcome (Some found) old out new = Posted clock key outcome found old out new

  -- memory was short while the connection of a key was told an outcome
  pub record Unposted (clock key : ℕ) (outcome : Resolved) (old new : Node W J) : Type 0 where
    pub found : Conn
    pub left : Conn
    pub had : get old.conns key ≡ Some found
    pub stopped : ConnUnposted step clock outcome found old.vbs new.vbs
    pub spent : is_spent left ≡ true
    pub stays : LeftOf found left
    pub conns : Updates old.conns new.conns key (Some left)
    pub rest : new ≡ record old { vbs = new.vbs; conns = new.conns }

  -- a connection has this key, and the peer there answered a frame
  pub record Answered (key : ℕ) (f : Frame) (found : Conn) (old : Node W J) (out : NodeOut) (new : Node W J) : Type 0 where
    pub left : Conn
    pub answered : ConnAnswered step f found old.vbs out left new.vbs
    pub conns : Updates old.conns new.conns key (Some left)
    pub rest : new ≡ record old { vbs = new.vbs; conns = new.conns }

  -- a frame for the connection of a key; where there is none, it is refused
  abbrev pub AnsweredAt : ℕ → Frame → Option Conn → Node W J → NodeOut → Node W J → Type 0
  AnsweredAt key f None old out new = (out ≡ refused_out cause.LinkClosed) × (new ≡ old)
  AnsweredAt key f (Some found) old out new = Answered key f found old out new

  -- memory was short while the connection of a key answered a frame
  pub record Unanswered (key : ℕ) (f : Frame) (old new : Node W J) : Type 0 where
    pub found : Conn
    pub left : Conn
    pub had : get old.conns key ≡ Some found
    pub stopped : ConnUnanswered step f found old.vbs new.vbs
    pub spent : is_spent left ≡ true
    pub stays : LeftOf found left
    pub conns : Updates old.conns new.conns key (Some left)
    pub rest : new ≡ record old { vbs = new.vbs; conns = new.conns }

  -- the connection of a key was let go, spent or not
  pub record Shut (key : ℕ) (found : Conn) (old : Node W J) (out : NodeOut) (new : Node W J) : Type 0 where
    pub closed : ConnShut step found old.vbs new.vbs
    pub said : out ≡ done_out [] []
    pub conns : Updates old.conns new.conns key None
    pub rest : new ≡ record old { vbs = new.vbs; conns = new.conns }

  -- the end of the connection of a key; where there is none, that is refused
  abbrev pub ShutAt : ℕ → Option Conn → Node W J → NodeOut → Node W J → Type 0
  ShutAt key None old out new = (out ≡ refused_out cause.LinkClosed) × (new ≡ old)
  ShutAt key (Some found) old out new = Shut key found old out new

  -- the cursor of the stream of the vBucket v of a connection was taken away, spent or not, and it is told whether it had one
  pub record Dropped (v : ℕ) (found : Conn) (old : Node W J) (out : NodeOut) (new : Node W J) : Type 0 where
    pub had : Bool
    pub ran : Ran step (cursor_dropped v (producer_in found)) old.vbs had new.vbs
    pub said : out ≡ dropped_out had
    pub rest : new ≡ record old { vbs = new.vbs }

  -- the same of the connection of a key; where there is none, that is refused
  abbrev pub DroppedAt : ℕ → Option Conn → Node W J → NodeOut → Node W J → Type 0
  DroppedAt v None old out new = (out ≡ refused_out cause.LinkClosed) × (new ≡ old)
  DroppedAt v (Some found) old out new = Dropped v found old out new

  -- a call to a vBucket that let it resolve durable writes
  pub record Settles (called : Prog FlushResult) (old : Node W J) (out : NodeOut) (new : Node W J) : Type 0 where
    pub told : FlushResult
    pub ran : Ran step called old.vbs told new.vbs
    pub said : out ≡ flush_out told
    pub rest : new ≡ record old { vbs = new.vbs }

  -- more of the vBucket v is written down, and its dial, if there is one, acknowledged what is due then
  pub record DialDue (v : ℕ) (found : KeptDial) (old : Node W J) (out : NodeOut) (new : Node W J) : Type 0 where
    pub live : found.spent ≡ false
    pub told : DialResult
    pub ran : Ran step (dial_due found.plain) old.vbs told new.vbs
    pub said : out ≡ done_out told.events told.out
    pub dials : Renumbered old.dials new.dials v (Some (live_dial told.dial))
    pub rest : new ≡ record old { vbs = new.vbs; dials = new.dials }

  -- where the vBucket did not dial, nothing is due
  abbrev pub DialDueAt : ℕ → Option KeptDial → Node W J → NodeOut → Node W J → Type 0
  DialDueAt v None old out new = (out ≡ done_out [] []) × (new ≡ old)
  DialDueAt v (Some found) old out new = DialDue v found old out new

  -- memory was short while the dial of the vBucket v was to acknowledge: it is spent, and stays the dial of its link; one that was spent before stays as it is
  pub record DialUndue (v : ℕ) (old new : Node W J) : Type 0 where
    pub found : KeptDial
    pub left : KeptDial
    pub had : value_at old.dials v ≡ Some found
    pub silent : found.spent ≡ true → new.vbs ≡ old.vbs
    pub began : Began step (dial_due found.plain) old.vbs new.vbs
    pub spent : left.spent ≡ true
    pub link : left.plain.consumer.dialed ≡ found.plain.consumer.dialed
    pub same : found.spent ≡ true → left ≡ found
    pub dials : Renumbered old.dials new.dials v (Some left)
    pub rest : new ≡ record old { vbs = new.vbs; dials = new.dials }

  -- the vBucket v dials as the consumer of a link with this buffer, to follow it or to take it over, unless it dialed already, or the link is not free
  pub record Dialed (v link buffer : ℕ) (takeover is_free : Bool) (old : Node W J) (out : NodeOut) (new : Node W J) : Type 0 where
    pub said : Result StreamAsk Cause
    pub ran : Ran step (dial_requested v (is_free && not (is_some (value_at old.dials v)))) old.vbs said new.vbs
    pub dials : DialedAs (record { link = link; node = old.number; vb = v; buffer = buffer; takeover = takeover }) said old.dials out new.dials
    pub rest : new ≡ record old { vbs = new.vbs; dials = new.dials }

module _ {W J : Type 0} (step : W → ℕ → VbCall → Option VbReply → W → Type 0) (asks : J → ℕ → (ask : Ask) → Got ask → J → Type 0) where
  -- a peer's connection was asked for frames of its streams
  abbrev pub PeerPulled : ℕ → KeptPeer → W → J → NodeOut → KeptPeer → W → J → Type 0
  PeerPulled frames kept old disks out left new disks' =
      (kept.spent ≡ false) × (left.spent ≡ false)
      × ((told : PullResult) × RanJob step asks (peer_pulled frames kept.plain) old disks told new disks' × (out ≡ pull_out told) × (left.plain ≡ told.peer))

  -- a client's connection was asked for frames of its streams
  abbrev pub ClientWasPulled : ℕ → KeptClient → W → J → NodeOut → KeptClient → W → J → Type 0
  ClientWasPulled frames kept old disks out left new disks' =
      (kept.spent ≡ false) × (left.spent ≡ false)
      × ((told : ClientPulled) × RanJob step asks (client_pulled frames kept.plain) old disks told new disks' × (out ≡ client_pull_out told) × (left.plain ≡ told.client))

  -- a connection was asked for frames of its streams
  abbrev pub ConnPulled : ℕ → Conn → W → J → NodeOut → Conn → W → J → Type 0
  ConnPulled frames (conn.Client kept) old disks out (conn.Client left) new disks' = ClientWasPulled frames kept old disks out left new disks'
  ConnPulled frames (conn.Client kept) old disks out (conn.Peer left) new disks' = ⊥
  ConnPulled frames (conn.Peer kept) old disks out (conn.Peer left) new disks' = PeerPulled frames kept old disks out left new disks'
  ConnPulled frames (conn.Peer kept) old disks out (conn.Client left) new disks' = ⊥

  -- memory was short while a connection was asked for frames
  abbrev pub ConnHalted : ℕ → Conn → W → J → W → J → Type 0
  ConnHalted frames (conn.Client kept) old disks new disks' = (kept.spent ≡ true → (new ≡ old) × (disks' ≡ disks)) × BeganJob step asks (client_pulled frames kept.plain) old disks new disks'
  ConnHalted frames (conn.Peer kept) old disks new disks' = (kept.spent ≡ true → (new ≡ old) × (disks' ≡ disks)) × BeganJob step asks (peer_pulled frames kept.plain) old disks new disks'

  -- the connection of a key was asked for frames
  pub record Pulled (frames key : ℕ) (found : Conn) (old : Node W J) (out : NodeOut) (new : Node W J) : Type 0 where
    pub left : Conn
    pub pulled : ConnPulled frames found old.vbs old.disks out left new.vbs new.disks
    pub conns : Updates old.conns new.conns key (Some left)
    pub rest : new ≡ record old { vbs = new.vbs; disks = new.disks; conns = new.conns }

  -- frames of the connection of a key; where there is none, that is refused
  abbrev pub PulledAt : ℕ → ℕ → Option Conn → Node W J → NodeOut → Node W J → Type 0
  PulledAt frames key None old out new = (out ≡ refused_out cause.LinkClosed) × (new ≡ old)
  PulledAt frames key (Some found) old out new = Pulled frames key found old out new

  -- memory was short while the connection of a key was asked for frames
  pub record Halted (frames key : ℕ) (old new : Node W J) : Type 0 where
    pub found : Conn
    pub left : Conn
    pub had : get old.conns key ≡ Some found
    pub halted : ConnHalted frames found old.vbs old.disks new.vbs new.disks
    pub spent : is_spent left ≡ true
    pub stays : LeftOf found left
    pub conns : Updates old.conns new.conns key (Some left)
    pub rest : new ≡ record old { vbs = new.vbs; disks = new.disks; conns = new.conns }

  -- the dial of the vBucket v, which was not spent, was given bytes; one that is over is let go
  pub record DialFed (v : ℕ) (piece : List ℕ) (found : KeptDial) (old : Node W J) (out : NodeOut) (new : Node W J) : Type 0 where
    pub fresh : found.spent ≡ false
    pub told : DialResult
    pub ran : RanJob step asks (dial_bytes piece found.plain) old.vbs old.disks told new.vbs new.disks
    pub said : out ≡ dial_out told
    pub dials : Renumbered old.dials new.dials v (dial_left told.dial)
    pub rest : new ≡ record old { vbs = new.vbs; disks = new.disks; dials = new.dials }

  -- bytes for the dial of the vBucket v; where there is none, they are refused
  abbrev pub DialFedAt : ℕ → List ℕ → Option KeptDial → Node W J → NodeOut → Node W J → Type 0
  DialFedAt v piece None old out new = (out ≡ refused_out cause.LinkClosed) × (new ≡ old)
  DialFedAt v piece (Some found) old out new = DialFed v piece found old out new

  -- memory was short while the dial of the vBucket v was given bytes: it is spent, and stays the dial of its link; one that was spent before stays as it is
  pub record DialStopped (v : ℕ) (piece : List ℕ) (old new : Node W J) : Type 0 where
    pub found : KeptDial
    pub left : KeptDial
    pub had : value_at old.dials v ≡ Some found
    pub silent : found.spent ≡ true → (new.vbs ≡ old.vbs) × (new.disks ≡ old.disks)
    pub began : BeganJob step asks (dial_bytes piece found.plain) old.vbs old.disks new.vbs new.disks
    pub spent : left.spent ≡ true
    pub link : left.plain.consumer.dialed ≡ found.plain.consumer.dialed
    pub same : found.spent ≡ true → left ≡ found
    pub dials : Renumbered old.dials new.dials v (Some left)
    pub rest : new ≡ record old { vbs = new.vbs; disks = new.disks; dials = new.dials }

  -- an operator's call to the vBucket v: each connection is told which streams it ended, and the own dial ends where it changed the role
  pub record Administered (v : ℕ) (asked : AdminCall) (old : Node W J) (out : NodeOut) (new : Node W J) : Type 0 where
    pub told : AdminResult
    pub ran : RanJob step asks (admin_job old.number v asked) old.vbs old.disks told new.vbs new.disks
    pub said : out ≡ admin_out (dial_ended told.ended (value_at old.dials v)) told
    pub conns : (key : ℕ) → get new.conns key ≡ option_map (conn_ended v told.ended) (get old.conns key)
    pub dials : (other : ℕ) → value_at new.dials other ≡ (if is_some told.ended && other == v then None else value_at old.dials other)
    pub rest : new ≡ record old { vbs = new.vbs; disks = new.disks; conns = new.conns; dials = new.dials }

  -- a step of writing the vBucket v down, if there is one
  pub record Wrote (has : W → ℕ → Bool) (v : ℕ) (part : FlushPart) (old : Node W J) (out : NodeOut) (new : Node W J) : Type 0 where
    pub told : FlushResult
    pub ran : RanJob step asks (flush_at old.number v part (has old.vbs v)) old.vbs old.disks told new.vbs new.disks
    pub said : out ≡ flush_out told
    pub rest : new ≡ record old { vbs = new.vbs; disks = new.disks }

-- a vBucket was made and its first record appended, or the access had one of that number
abbrev pub MadeIf : {J : Type 0} → (J → ℕ → (ask : Ask) → Got ask → J → Type 0) → ℕ → ℕ → Role → ℕ → Bool → J → NodeOut → J → Type 0
MadeIf asks n v role uuid true old out new = (fate : Fate) × asks old v (Append (State role (first_log role uuid))) fate new × (out ≡ made_out n v role uuid (wrote_of fate))
MadeIf asks n v role uuid false old out new = (new ≡ old) × (out ≡ refused_out cause.VbExists)

-- a vBucket was made exactly where the access had none of that number
pub record Made {W J : Type 0} (made : W → ℕ → ℕ → Role → ℕ → Bool → W → Type 0) (asks : J → ℕ → (ask : Ask) → Got ask → J → Type 0) (v : ℕ) (role : Role) (uuid : ℕ) (old : Node W J) (out : NodeOut) (new : Node W J) : Type 0 where
  pub fresh : Bool
  pub made_if : made old.vbs v old.number role uuid fresh new.vbs
  pub noted : MadeIf asks old.number v role uuid fresh old.disks out new.disks
  pub rest : new ≡ record old { vbs = new.vbs; disks = new.disks }

-- memory was short once a vBucket was made: its first record may stand or not
pub record HalfMade {W J : Type 0} (made : W → ℕ → ℕ → Role → ℕ → Bool → W → Type 0) (asks : J → ℕ → (ask : Ask) → Got ask → J → Type 0) (v : ℕ) (role : Role) (uuid : ℕ) (old new : Node W J) : Type 0 where
  pub made_it : made old.vbs v old.number role uuid true new.vbs
  pub noted : IsUnasked asks v old.disks new.disks ⊎ ((fate : Fate) × asks old.disks v (Append (State role (first_log role uuid))) fate new.disks)
  pub rest : new ≡ record old { vbs = new.vbs; disks = new.disks }

-- a connection was opened under a key that was free
pub record Opened {W J : Type 0} (asked : ConnKind) (old : Node W J) (key : ℕ) (new : Node W J) : Type 0 where
  pub free : get old.conns key ≡ None
  pub conns : Updates old.conns new.conns key (Some (new_conn old.number asked))
  pub rest : new ≡ record old { conns = new.conns }

-- the dial of the vBucket v was let go, spent or not; where there is none, that is refused
abbrev pub DialShutAt : {W J : Type 0} → ℕ → Option KeptDial → Node W J → NodeOut → Node W J → Type 0
DialShutAt v None old out new = (out ≡ refused_out cause.LinkClosed) × (new ≡ old)
DialShutAt v (Some found) old out new = (out ≡ cut_out found.plain) × Renumbered old.dials new.dials v None × (new ≡ record old { dials = new.dials })
