-- whom a node tells what became of a durable write
use Rattle.std.specs.Prelude.{◌≡◌, ◌≢◌, ◌<◌, ℕ, List, [], ◌∷◌, Some, IsFalse}
use Rattle.mcbp_frame.specs.declared.frame.Frame.{Frame}
use Rattle.vb_events.specs.declared.event.Event.{Event}
use Rattle.vb_calls.specs.declared.calls.Resolved.{Resolved}
use Rattle.client_session.specs.declared.session.Awaited.{Awaited}
use Rattle.client_session.specs.Conduct.{sent}
use Rattle.client_session.specs.Rows.{IsOutcome}
use Rattle.node_core.specs.Clients.{PlainClient}
use Rattle.node_world.specs.declared.script_node.TheConstants.{MAX_CLIENTS}
use Rattle.node_world.specs.Nodes.{PlainNode, awaits_in, posted}

-- no connection awaits the outcome of this waiter
abbrev pub NobodyAwaits : ℕ → PlainNode → Type 0
NobodyAwaits waiter node = (c : ℕ) → c < MAX_CLIENTS → IsFalse (awaits_in waiter (node.clients c))

-- the connection c awaits it, for the durable write of a request of this opcode and opaque, and no other does
pub record AwaitsAlone (waiter c : ℕ) (client : PlainClient) (a : Awaited) (node : PlainNode) : Type 0 where
  pub within : c < MAX_CLIENTS
  pub there : node.clients c ≡ Some client
  pub awaited : client.session.awaited ≡ Some a
  pub mine : a.waiter ≡ waiter
  pub others : (d : ℕ) → d < MAX_CLIENTS → d ≢ c → IsFalse (awaits_in waiter (node.clients d))

-- it is told the outcome first, by the answer to that request; all other connections stay
pub record TellsFirst (r : Resolved) (c : ℕ) (client : PlainClient) (a : Awaited) (node : PlainNode) : Type 0 where
  pub frame : Frame
  pub is : IsOutcome client.session.settings a.opcode a.opaque r.how frame
  pub rest : List Event
  pub told : (posted r node).1 ≡ sent client.session.who frame ∷ rest
  pub others : (d : ℕ) → d ≢ c → (posted r node).0.clients d ≡ node.clients d

-- what became of a durable write at a node
pub record GoesToWhoAwaits (r : Resolved) (node : PlainNode) : Type 0 where
  pub nobody : NobodyAwaits r.waiter node → posted r node ≡ (node, [])
  pub one : (c : ℕ) (client : PlainClient) (a : Awaited) → AwaitsAlone r.waiter c client a node → TellsFirst r c client a node
