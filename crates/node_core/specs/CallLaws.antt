-- what a connection and a dial refuse, and which calls an operator's are, in other words
use Rattle.std.specs.Prelude.{◌≡◌, ℕ, false, List, [], Option, Some, None}
use Rattle.mcbp_frame.specs.declared.frame.Frame.{Frame}
use Rattle.vb_events.specs.declared.event.Answer.{Answer}
use Rattle.vb_events.specs.declared.event.Answer.TheVariants as line
use Rattle.vb_events.specs.declared.event.Cause.TheVariants as cause
use Rattle.vb_calls.specs.declared.calls.Resolved.{Resolved}
use Rattle.vb_calls.specs.declared.calls.VbCall.{VbCall}
use Rattle.vb_calls.specs.declared.calls.VbReply.{VbReply}
use Rattle.node_core.specs.declared.conn.Conn.{Conn}
use Rattle.node_core.specs.declared.conn.Conn.TheVariants as conn
use Rattle.node_core.specs.declared.node.Node.{Node}
use Rattle.node_core.specs.declared.out.NodeOut.{NodeOut}
use Rattle.node_core.specs.Clients.{KeptClient}
use Rattle.node_core.specs.GivingUp.{GaveUpAt}
use Rattle.node_core.specs.Outcomes.{ConnAnswered, ConnFed, ConnHeard, ConnPosted, DialDueAt, DialFedAt, DialShutAt, FedAt, PostedAt, AnsweredAt, PulledAt, DroppedAt, ShutAt}
use Rattle.node_core.specs.Peers.{KeptPeer}
use Rattle.vb_calls.specs.Shelves.{Ask, Got}

-- this was answered, and no line, no byte and no outcome is handed out, and nothing is gone
abbrev pub SaysAlone : Answer → NodeOut → Type 0
SaysAlone said out = out ≡ record { events = []; out = []; answer = said; closed = false; resolved = [] }

module _ {W : Type 0} (step : W → ℕ → VbCall → Option VbReply → W → Type 0) where
  -- a peer's connection takes no bytes and no outcome as a client's does, and a client's answers no frames as a peer's does, and gives none: each is as before, and no vBucket is called
  pub record RefusesOthers : Type 0 where
    pub bytes : (clock : ℕ) (piece : List ℕ) (kept : KeptPeer) (old : W) (out : NodeOut) (left : Conn) (new : W) → ConnFed step clock piece (conn.Peer kept) old out left new
        → SaysAlone (line.No cause.LinkClosed) out × (left ≡ conn.Peer kept) × (new ≡ old)
    pub outcomes : (clock : ℕ) (outcome : Resolved) (kept : KeptPeer) (old : W) (out : NodeOut) (left : Conn) (new : W) → ConnPosted step clock outcome (conn.Peer kept) old out left new
        → SaysAlone (line.No cause.LinkClosed) out × (left ≡ conn.Peer kept) × (new ≡ old)
    pub frames : (f : Frame) (kept : KeptClient) (old : W) (out : NodeOut) (left : Conn) (new : W) → ConnAnswered step f (conn.Client kept) old out left new
        → SaysAlone (line.No cause.LinkClosed) out × (left ≡ conn.Client kept) × (new ≡ old)
    pub hears : (piece : List ℕ) (kept : KeptClient) (frames : List Frame) (left : Option Conn) → ConnHeard piece (Some (conn.Client kept)) frames left → (frames ≡ []) × (left ≡ Some (conn.Client kept))

-- where a key has no connection, or a vBucket did not dial, what is asked of it is refused, and the node is as before; only that nothing is due is no refusal
pub record RefusesNobody (W J : Type 0) (step : W → ℕ → VbCall → Option VbReply → W → Type 0) (asks : J → ℕ → (ask : Ask) → Got ask → J → Type 0) : Type 0 where
  pub bytes : (clock key : ℕ) (piece : List ℕ) (old : Node W J) (out : NodeOut) (new : Node W J) → FedAt step clock key piece None old out new → SaysAlone (line.No cause.LinkClosed) out × (new ≡ old)
  pub outcomes : (clock key : ℕ) (outcome : Resolved) (old : Node W J) (out : NodeOut) (new : Node W J) → PostedAt step clock key outcome None old out new → SaysAlone (line.No cause.LinkClosed) out × (new ≡ old)
  pub frames : (key : ℕ) (f : Frame) (old : Node W J) (out : NodeOut) (new : Node W J) → AnsweredAt step key f None old out new → SaysAlone (line.No cause.LinkClosed) out × (new ≡ old)
  pub pulls : (frames key : ℕ) (old : Node W J) (out : NodeOut) (new : Node W J) → PulledAt step asks frames key None old out new → SaysAlone (line.No cause.LinkClosed) out × (new ≡ old)
  pub gives : (frames key : ℕ) (old : Node W J) (out : NodeOut) (new : Node W J) → GaveUpAt step frames key None old out new → SaysAlone (line.No cause.LinkClosed) out × (new ≡ old)
  pub drops : (v : ℕ) (old : Node W J) (out : NodeOut) (new : Node W J) → DroppedAt step v None old out new → SaysAlone (line.No cause.LinkClosed) out × (new ≡ old)
  pub shuts : (key : ℕ) (old : Node W J) (out : NodeOut) (new : Node W J) → ShutAt step key None old out new → SaysAlone (line.No cause.LinkClosed) out × (new ≡ old)
  pub dials : (v : ℕ) (piece : List ℕ) (old : Node W J) (out : NodeOut) (new : Node W J) → DialFedAt step asks v piece None old out new → SaysAlone (line.No cause.LinkClosed) out × (new ≡ old)
  pub cuts : (v : ℕ) (old : Node W J) (out : NodeOut) (new : Node W J) → DialShutAt v None old out new → SaysAlone (line.No cause.LinkClosed) out × (new ≡ old)
  pub dues : (v : ℕ) (old : Node W J) (out : NodeOut) (new : Node W J) → DialDueAt step v None old out new → SaysAlone line.Ok out × (new ≡ old)
