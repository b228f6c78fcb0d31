-- what comes of a connection whose streams give vBuckets up, and what every connection is told of it
use Rattle.std.specs.Prelude.{◌≡◌, ◌≢◌, ℕ, true, false, List, [], map, Option, Some, None}
use Rattle.std.specs.List.{flat_map, fold}
use Rattle.std.specs.Option.{option_map}
use Rattle.slab.specs.Slab.{get, Updates}
use Rattle.dcp_producer.specs.declared.yields.Yielded.{Yielded}
use Rattle.dcp_producer.specs.Giving.{Yields, given_up}
use Rattle.vb_calls.specs.Programs.{Prog, Done, bind, Ran, Began}
use Rattle.vb_calls.specs.declared.calls.Resolved.{Resolved}
use Rattle.vb_calls.specs.declared.calls.VbCall.{VbCall}
use Rattle.vb_calls.specs.declared.calls.VbReply.{VbReply}
use Rattle.vb_events.specs.declared.event.Answer.TheVariants as answer
use Rattle.vb_events.specs.declared.event.Cause.TheVariants as cause
use Rattle.vb_events.specs.declared.event.Event.{Event}
use Rattle.vb_events.specs.declared.event.Event.TheVariants as event
use Rattle.vb_types.specs.declared.role.Role.TheVariants.{Dead}
use Rattle.node_core.specs.declared.conn.Conn.{Conn}
use Rattle.node_core.specs.declared.conn.Conn.TheVariants as conn
use Rattle.node_core.specs.declared.giving.Gave.{Gave}
use Rattle.node_core.specs.declared.node.Node.{Node}
use Rattle.node_core.specs.declared.out.NodeOut.{NodeOut}
use Rattle.node_core.specs.Outcomes.{LeftOf, conn_ended, is_spent}
use Rattle.node_core.specs.Outs.{refused_out}
use Rattle.node_core.specs.Peers.{KeptPeer, PlainPeer}

-- ---- what is told

-- the line of a vBucket that was given up at the node n
abbrev pub dead_line : ℕ → Yielded → Event
dead_line n one = event.Role n one.vb Dead

-- what became of durable writes there
abbrev pub resolved_in : Yielded → List Resolved
resolved_in one = one.resolved

-- what is told of vBuckets of the node n that were given up
abbrev pub gave_of : ℕ → List Yielded → Gave
gave_of n given = record { given = given; lines = map (dead_line n) given; resolved = flat_map resolved_in given }

-- what the node hands out of it: the line of each, and behind all of them what became of durable writes
abbrev pub given_out : ℕ → List Yielded → NodeOut
given_out n given = record { events = map (dead_line n) given; out = []; answer = answer.Ok; closed = false; resolved = flat_map resolved_in given }

-- a connection is told which of its streams ended as a vBucket was given up
abbrev pub told_one : Conn → Yielded → Conn
told_one c one = conn_ended one.vb (Some one.ended) c

-- and of several, one after the other
abbrev pub conn_given : List Yielded → Conn → Conn
conn_given given c = fold told_one c given

-- ---- a connection

-- a peer's connection whose streams gave vBuckets up, and which these are
pub record GiveResult : Type 0 where
  pub peer : PlainPeer
  pub given : List Yielded

-- what was told of it, with these bytes left
abbrev pub give_result : List ℕ → Yields → GiveResult
give_result heard yields = record { peer = record { heard = heard; producer = yields.end }; given = yields.yielded }

-- a peer's streams give vBuckets up, in front of so many frames
abbrev pub peer_gives_up : ℕ → PlainPeer → Prog GiveResult
peer_gives_up frames peer = bind (given_up frames peer.producer) (λ yields. Done (give_result peer.heard yields))

module _ {W : Type 0} (step : W → ℕ → VbCall → Option VbReply → W → Type 0) where
  -- a peer's connection was asked to give vBuckets up: it was not spent, and gave up these
  abbrev pub PeerGaveUp : ℕ → KeptPeer → W → List Yielded → KeptPeer → W → Type 0
  PeerGaveUp frames kept old given left new = (kept.spent ≡ false) × (left.spent ≡ false) × Ran step (peer_gives_up frames kept.plain) old (record { peer = left.plain; given = given }) new

  -- a connection was asked so. A client's gives none up, as none of its streams hands a vBucket over
  abbrev pub ConnGaveUp : ℕ → Conn → W → List Yielded → Conn → W → Type 0
  ConnGaveUp frames (conn.Client kept) old given left new = (new ≡ old) × (given ≡ []) × (left ≡ conn.Client kept)
  ConnGaveUp frames (conn.Peer kept) old given (conn.Peer left) new = PeerGaveUp frames kept old given left new
  ConnGaveUp frames (conn.Peer kept) old given (conn.Client left) new = ⊥

  -- memory was short while a connection was asked so
  abbrev pub ConnUngiven : ℕ → Conn → W → W → Type 0
  ConnUngiven frames (conn.Client kept) old new = ⊥
  ConnUngiven frames (conn.Peer kept) old new = (kept.spent ≡ true → new ≡ old) × Began step (peer_gives_up frames kept.plain) old new

-- ---- a node

module _ {W J : Type 0} (step : W → ℕ → VbCall → Option VbReply → W → Type 0) where
  -- the connection of a key gave these vBuckets up, and each connection was told which of its streams ended
  pub record GaveUp (frames key : ℕ) (found : Conn) (old : Node W J) (out : NodeOut) (new : Node W J) : Type 0 where
    pub left : Conn
    pub given : List Yielded
    pub gave : ConnGaveUp step frames found old.vbs given left new.vbs
    pub said : out ≡ given_out old.number given
    pub own : get new.conns key ≡ Some (conn_given given left)
    pub others : (other : ℕ) → other ≢ key → get new.conns other ≡ option_map (conn_given given) (get old.conns other)
    pub rest : new ≡ record old { vbs = new.vbs; conns = new.conns }

  -- the connection of a key is to give vBuckets up; where there is none, that is refused
  abbrev pub GaveUpAt : ℕ → ℕ → Option Conn → Node W J → NodeOut → Node W J → Type 0
  GaveUpAt frames key None old out new = (out ≡ refused_out cause.LinkClosed) × (new ≡ old)
  GaveUpAt frames key (Some found) old out new = GaveUp frames key found old out new

  -- memory was short as the connection of a key gave vBuckets up: it is spent, and no connection was told of it
  pub record Ungiven (frames key : ℕ) (old new : Node W J) : Type 0 where
    pub found : Conn
    pub left : Conn
    pub had : get old.conns key ≡ Some found
    pub ungiven : ConnUngiven step frames found old.vbs new.vbs
    pub spent : is_spent left ≡ true
    pub stays : LeftOf found left
    pub conns : Updates old.conns new.conns key (Some left)
    pub rest : new ≡ record old { vbs = new.vbs; conns = new.conns }
