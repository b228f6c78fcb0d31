-- how a client's connection and a dial end, in other words
use Rattle.std.specs.Prelude.{◌≡◌, ℕ, ◌<◌, ◌≤◌, true, false, List, [], ◌∷◌, ◌++◌, ◌⊎◌, Option, Some, None}
use Rattle.slab.specs.Slab.{get}
use Rattle.node_core.specs.Clients.{PlainClient}
use Rattle.mcbp_frame.specs.declared.frame.FrameFault.{FrameFault}
use Rattle.vb_events.specs.declared.event.EndReason.{EndReason}
use Rattle.vb_events.specs.declared.event.EndReason.TheVariants as reason
use Rattle.vb_events.specs.declared.event.Event.TheVariants as event
use Rattle.vb_types.specs.declared.role.LogEntry.{LogEntry}
use Rattle.vb_types.specs.declared.status.Status.{Status}
use Rattle.vb_types.specs.declared.stream.StreamAsk.{StreamAsk}
use Rattle.vb_calls.specs.declared.calls.Resolved.{Resolved}
use Rattle.vb_calls.specs.declared.calls.VbAnswer.TheVariants as answer
use Rattle.vb_calls.specs.declared.calls.VbCall.{VbCall}
use Rattle.vb_calls.specs.declared.calls.VbReply.{VbReply}
use Rattle.vb_calls.specs.declared.journals.Rolled.{Rolled}
use Rattle.vb_calls.specs.declared.journals.Rolled.TheVariants as rolled
use Rattle.vb_calls.specs.Programs.{AnyCall, Always}
use Rattle.dcp_consumer.specs.declared.handshake.Handshake.TheVariants as handshake
use Rattle.dcp_consumer.specs.Machine.{over_why}
use Rattle.node_core.specs.declared.conn.Conn.{Conn}
use Rattle.node_core.specs.declared.conn.Conn.TheVariants as conn
use Rattle.node_core.specs.declared.node.Node.{Node}
use Rattle.node_core.specs.declared.out.NodeOut.{NodeOut}
use Rattle.node_core.specs.Calls.{left_open}
use Rattle.node_core.specs.Dials.{PlainDial, DialResult, adopt_result, again_result, with_last_line, fault_met, message_result, rolled_back}
use Rattle.node_core.specs.Outcomes.{Fed, Posted, kept_unless}
use Rattle.node_core.specs.Outs.{cut_line}

-- a connection is a client's whose session is closed
abbrev pub IsClosed : Conn → Type 0
IsClosed (conn.Client kept) = kept.plain.session.closed ≡ true
IsClosed (conn.Peer kept) = Unit {0} → ⊥

-- after a call on the connection of a key that handed this out: no connection is kept there that is closed; there is none where it is said to be closed, and else there is one
pub record KeepsOpen {W J : Type 0} (key : ℕ) (out : NodeOut) (new : Node W J) : Type 0 where
  pub no_closed : (c : Conn) → get new.conns key ≡ Some c → IsClosed c → ⊥
  pub gone : out.closed ≡ true → get new.conns key ≡ None
  pub stays : out.closed ≡ false → (c : Conn) × (get new.conns key ≡ Some c)

-- so it is after bytes, and after what became of a durable write
pub record LetsClosedGo (W J : Type 0) (step : W → ℕ → VbCall → Option VbReply → W → Type 0) : Type 0 where
  pub bytes : (clock key : ℕ) (piece : List ℕ) (found : Conn) (old : Node W J) (out : NodeOut) (new : Node W J) → Fed step clock key piece found old out new → KeepsOpen key out new
  pub outcomes : (clock key : ℕ) (outcome : Resolved) (found : Conn) (old : Node W J) (out : NodeOut) (new : Node W J) → Posted step clock key outcome found old out new → KeepsOpen key out new

-- a session that is closed is no client's any more, and one that is open stays that of its client; so does a connection
pub record LeavesOpenAlone : Type 0 where
  pub is_closed : (client : PlainClient) → client.session.closed ≡ true → left_open client ≡ None
  pub still_open : (client : PlainClient) → client.session.closed ≡ false → left_open client ≡ Some client
  pub let_go : (c : Conn) → kept_unless true c ≡ None
  pub kept : (c : Conn) → kept_unless false c ≡ Some c

-- the link of a dial is over for this reason
abbrev pub IsOverFor : EndReason → DialResult → Type 0
IsOverFor why s = over_why s.dial.consumer.handshake ≡ Some why

-- the vBucket made the call
abbrev pub IsMade : Option VbReply → Type 0
IsMade reply = (r : VbReply) × (reply ≡ Some r) × (r.answer ≡ answer.Done)

-- it took a marker or a change
abbrev pub IsTaken : Option VbReply → Type 0
IsTaken reply = (r : VbReply) × (reply ≡ Some r) × ((r.answer ≡ answer.Done) ⊎ ((ss se : ℕ) × (r.answer ≡ answer.Range ss se)))

-- a rollback could not be read or written down
abbrev pub IsOfDisk : Rolled → Type 0
IsOfDisk rolled.Closed = Unit {0}
IsOfDisk rolled.DiskFailed = Unit {0}
IsOfDisk (rolled.Damaged place) = Unit {0}
IsOfDisk (rolled.To to) = ⊥
IsOfDisk (rolled.Refused st) = ⊥

-- what ends a dial, and what does not
pub record OverByRefusals : Type 0 where
  pub log : (log : List LogEntry) (s : DialResult) (reply : Option VbReply) → (IsMade reply → ⊥) → IsOverFor reason.Protocol (adopt_result log s reply)
  pub granted : (log : List LogEntry) (s : DialResult) (reply : Option VbReply) → IsMade reply → s.dial.consumer.handshake ≡ handshake.Asking → (adopt_result log s reply).dial.consumer.handshake ≡ handshake.Streaming
  pub message : (s : DialResult) (reply : Option VbReply) → (IsTaken reply → ⊥) → IsOverFor reason.Protocol (message_result s reply)
  pub taken : (s : DialResult) (reply : Option VbReply) → IsTaken reply → (message_result s reply).dial ≡ s.dial
  pub refused : (point : ℕ) (s : DialResult) (st : Status) → Always AnyCall (IsOverFor reason.Protocol) (rolled_back point s (rolled.Refused st))
  pub disk : (point : ℕ) (s : DialResult) (came : Rolled) → IsOfDisk came → Always AnyCall (IsOverFor reason.Disk) (rolled_back point s came)
  -- a vBucket that is asked once more: one that does not follow, one that does, and one for which no opaque is left
  pub follows_not : (s : DialResult) → IsOverFor reason.Protocol (again_result s None)
  pub follows : (s : DialResult) (ask : StreamAsk) → s.dial.consumer.handshake ≡ handshake.Asking → s.dial.consumer.asked < 4294967295 → (again_result s (Some ask)).dial.consumer.handshake ≡ handshake.Asking
  pub no_more_asks : (s : DialResult) (ask : StreamAsk) → s.dial.consumer.handshake ≡ handshake.Asking → 4294967295 ≤ s.dial.consumer.asked → IsOverFor reason.Protocol (again_result s (Some ask))
  -- bytes that begin no frame; a link that is over already ended for its own reason
  pub fault : (s : DialResult) (fault : FrameFault) → over_why s.dial.consumer.handshake ≡ None → IsOverFor reason.Protocol (fault_met (Some fault) s)
  pub earlier : (s : DialResult) (fault : Option FrameFault) (why : EndReason) → IsOverFor why s → fault_met fault s ≡ s
  pub none : (s : DialResult) → fault_met None s ≡ s

-- The last line of a dial says its link and why it is over. Where the disk is why, who called tells that line; a dial that is not over has none; one that is cut says so.
pub record LastLines : Type 0 where
  pub refused : (s : DialResult) → IsOverFor reason.Refused s → (with_last_line s).events ≡ s.events ++ event.Ended s.dial.consumer.dialed.link reason.Refused ∷ []
  pub protocol : (s : DialResult) → IsOverFor reason.Protocol s → (with_last_line s).events ≡ s.events ++ event.Ended s.dial.consumer.dialed.link reason.Protocol ∷ []
  pub done : (s : DialResult) → IsOverFor reason.Done s → (with_last_line s).events ≡ s.events ++ event.Ended s.dial.consumer.dialed.link reason.Done ∷ []
  pub state : (s : DialResult) → IsOverFor reason.State s → (with_last_line s).events ≡ s.events ++ event.Ended s.dial.consumer.dialed.link reason.State ∷ []
  pub disk : (s : DialResult) → IsOverFor reason.Disk s → with_last_line s ≡ s
  pub none : (s : DialResult) → over_why s.dial.consumer.handshake ≡ None → with_last_line s ≡ s
  pub cut : (dial : PlainDial) → cut_line dial ≡ event.Ended dial.consumer.dialed.link reason.Cut
