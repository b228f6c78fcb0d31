-- a frame of a client is served at its node's clock
use Rattle.std.specs.Prelude.{◌≡◌, ◌≢◌, ◌<◌, ℕ, List, [], drop, false, Some, None, Ok}
use Rattle.client_session.specs.Serving.{PlainSession, deadline_of, next_waiter}
use Rattle.node_core.specs.Clients.{PlainClient}
use Rattle.mcbp_frame.specs.declared.frame.Frame.{Frame}
use Rattle.mcbp_frame.specs.declared.frame.TheConstants.{RESPONSE}
use Rattle.mcbp_frame.specs.Frames.{first_frame, frame_len}
use Rattle.mcbp_kv.specs.Requests.{request_of}
use Rattle.mcbp_kv.specs.declared.durable.Durability.{Durability}
use Rattle.mcbp_kv.specs.declared.request.KvRequest.TheVariants as asks
use Rattle.script_text.specs.declared.verb.Verb.TheVariants as verb
use Rattle.script_text.specs.declared.verb.ClientVerb.TheVariants as client_verb
use Rattle.vb_types.specs.declared.write.Write.{Write}
use Rattle.vb_calls.specs.declared.calls.VbCall.{VbCall}
use Rattle.vb_calls.specs.declared.calls.VbCall.TheVariants as call
use Rattle.vb_calls.specs.Plain.{plain_step}
use Rattle.vb_calls.specs.State.{Plain}
use Rattle.node_world.specs.Nodes.{PlainNode}
use Rattle.node_world.specs.World.{verb_step}
use Rattle.node_world.specs.Worlds.{PlainWorld, Outcome}

-- these bytes are one request, and the connection, which is open, waits for no outcome and has no bytes yet
pub record IsOne (session : PlainSession) (bytes : List ℕ) (f : Frame) : Type 0 where
  pub live : session.closed ≡ false
  pub free : session.awaited ≡ None
  pub empty : session.reader ≡ []
  pub whole : first_frame bytes ≡ Some (Ok f)
  pub alone : drop (frame_len f) bytes ≡ []
  pub asks : f.magic ≢ RESPONSE

-- the vBucket v of the node n is as this call left it
abbrev pub Makes : ℕ → ℕ → Plain → VbCall → Outcome → Type 0
Makes n v vb made came = (now : PlainNode) × (came.0.nodes n ≡ Some now) × (now.vbs v ≡ Some (plain_step vb made).0)

-- a write, and a durable one, of the connection c of the running node n are made when the node's clock shows, and the durable one is given up so long after that
pub record Clocked (w : PlainWorld) (n c : ℕ) (node : PlainNode) (client : PlainClient) (bytes : List ℕ) (f : Frame) (vb : Plain) : Type 0 where
  pub write : (number : ℕ) (write : Write) → request_of client.session.settings.json f ≡ Ok (asks.Write write None) → Makes n f.vb_or_status vb (call.Store write node.clock) (verb_step w number (verb.AtClient n c (client_verb.Bytes bytes)))
  pub durable : (number : ℕ) (write : Write) (wish : Durability) → client.session.used < 4294967295 → request_of client.session.settings.json f ≡ Ok (asks.Write write (Some wish))
      → Makes n f.vb_or_status vb (call.Durable write node.clock wish.level (deadline_of node.clock wish.timeout) (next_waiter client.session)) (verb_step w number (verb.AtClient n c (client_verb.Bytes bytes)))
