-- clients that streams feed: what their requests of DCP and the frames of their streams are told as, and how their streams end
use Rattle.std.specs.Prelude.{◌≡◌, ◌≢◌, ◌≤◌, ◌⊎◌, ◌==◌, ◌+◌, ℕ, min, true, false, List, [], ◌∷◌, ◌++◌, drop, length, map, Option, Some, None, Ok}
use Rattle.std.specs.List.{fold, list_any}
use Rattle.client_session.specs.Serving.{PlainSession}
use Rattle.dcp_producer.specs.Endings.{AreEnded, alive}
use Rattle.dcp_producer.specs.Producers.{PlainStream, Served as Answered, begun}
use Rattle.dcp_producer.specs.Pulling.{frames_put, why_of}
use Rattle.dcp_producer.specs.Serving.{frame_answered}
use Rattle.dcp_producer.specs.declared.halt.Halt.{Halt}
use Rattle.mcbp_dcp.specs.Rows.{dcp_opcodes}
use Rattle.mcbp_frame.specs.Frames.{big_32_at, first_frame, frame_len}
use Rattle.mcbp_frame.specs.declared.frame.Frame.{Frame}
use Rattle.mcbp_frame.specs.declared.frame.TheConstants.{HEADER_LEN, RESPONSE}
use Rattle.script_text.specs.declared.verb.ClientVerb.TheVariants as client_verb
use Rattle.script_text.specs.declared.verb.VbVerb.TheVariants as vb_verb
use Rattle.script_text.specs.declared.verb.Verb.TheVariants as verb
use Rattle.vb_calls.specs.declared.calls.Resolved.{Resolved}
use Rattle.vb_calls.specs.declared.calls.VbCall.TheVariants as call
use Rattle.vb_calls.specs.Following.{log_lacks}
use Rattle.vb_calls.specs.Jobs.{after_reads}
use Rattle.vb_calls.specs.Programs.{after}
use Rattle.vb_calls.specs.State.{Plain}
use Rattle.vb_calls.specs.States.{States, states_step}
use Rattle.vb_events.specs.declared.event.Answer.TheVariants as answer
use Rattle.vb_events.specs.declared.event.Event.{Event}
use Rattle.vb_events.specs.declared.event.Event.TheVariants as event
use Rattle.vb_types.specs.declared.role.Role.TheVariants as role
use Rattle.client_session.specs.declared.session.Who.{Who}
use Rattle.node_core.specs.Clients.{PlainClient}
use Rattle.node_world.specs.CallsMade.{reply_of}
use Rattle.node_world.specs.Causes.{IsFree}
use Rattle.node_world.specs.Nodes.{PlainNode, all_posted}
use Rattle.node_world.specs.World.{verb_step}
use Rattle.node_world.specs.Worlds.{PlainWorld, Outcome}

-- ---- what a client gets

-- a producer's lines as a client gets them: behind each stands a reply, which is the next piece of the producer's bytes, as long as its header says; and bytes of which no line tells are one reply
abbrev pub ToldWith : Who → List Event → List ℕ → List Event → Type 0
ToldWith who [] bytes told = ((bytes ≡ []) × (told ≡ [])) ⊎ ((bytes ≢ []) × (told ≡ event.Reply who.node who.client bytes ∷ []))
ToldWith who (line ∷ lines) bytes told =
    (piece : List ℕ) × (rest : List ℕ) × (more : List Event) × (bytes ≡ piece ++ rest) × (HEADER_LEN ≤ length bytes → length piece ≡ min (HEADER_LEN + big_32_at bytes 8) (length bytes))
    × (told ≡ line ∷ event.Reply who.node who.client piece ∷ more) × ToldWith who lines rest more

-- `pull N C K` tells of the frames that the connection's producer puts, and says how many they are and why there are no more; the session stays
pub record PullsFrames (w : PlainWorld) (n c : ℕ) (client : PlainClient) (node : PlainNode) : Type 0 where
  pub told : (number frames : ℕ) (put : States × (Answered × Halt)) → after_reads (frames_put frames (begun client.producer)) node.shelves node.vbs ≡ put
      → ToldWith client.session.who put.1.0.events put.1.0.out (verb_step w number (verb.AtClient n c (client_verb.Pull frames))).1.events
      × ((verb_step w number (verb.AtClient n c (client_verb.Pull frames))).1.answer ≡ answer.Pulled put.1.0.count (why_of put.1.1))
  pub left : (number frames : ℕ) (put : States × (Answered × Halt)) → after_reads (frames_put frames (begun client.producer)) node.shelves node.vbs ≡ put
      → (now : PlainNode) × ((verb_step w number (verb.AtClient n c (client_verb.Pull frames))).0.nodes n ≡ Some now) × (now.vbs ≡ put.0)
      × (now.clients c ≡ Some (record { session = client.session; producer = put.1.0.end }))

-- ---- requests

-- these bytes begin with a whole request of DCP, and the connection, which is open, waits for no outcome and has no bytes yet
pub record BeginsWith (session : PlainSession) (bytes : List ℕ) (f : Frame) : Type 0 where
  pub live : session.closed ≡ false
  pub free : session.awaited ≡ None
  pub empty : session.reader ≡ []
  pub whole : first_frame bytes ≡ Some (Ok f)

-- a frame that asks for something of DCP
pub record AsksDcp (f : Frame) : Type 0 where
  pub asks : f.magic ≢ RESPONSE
  pub named : list_any (λ o. o == f.opcode) dcp_opcodes ≡ true

-- requests of DCP are answered by the connection's producer in the order of the bytes: what is told begins with the answer to the first, and where another one stands behind it, goes on with the answer to that
pub record AnswersInOrder (w : PlainWorld) (n c : ℕ) (node : PlainNode) (client : PlainClient) (bytes : List ℕ) (f : Frame) : Type 0 where
  pub first : (number : ℕ) (a : States × Answered) → after (frame_answered f (begun client.producer)) node.vbs ≡ a
      → (lines : List Event) × (rest : List Event) × ToldWith client.session.who a.1.events a.1.out lines × ((verb_step w number (verb.AtClient n c (client_verb.Bytes bytes))).1.events ≡ lines ++ rest)
  pub next : (number : ℕ) (g : Frame) (a b : States × Answered) → first_frame (drop (frame_len f) bytes) ≡ Some (Ok g) → AsksDcp g
      → after (frame_answered f (begun client.producer)) node.vbs ≡ a → after (frame_answered g (begun a.1.end)) a.0 ≡ b
      → (lines : List Event) × (later : List Event) × (rest : List Event) × ToldWith client.session.who a.1.events a.1.out lines × ToldWith client.session.who b.1.events b.1.out later
      × ((verb_step w number (verb.AtClient n c (client_verb.Bytes bytes))).1.events ≡ lines ++ (later ++ rest))

-- ---- how their streams end

-- each stream of a connection that a change of role at the vBucket v named is ended; the others are as they were, and so are the session and all else
abbrev pub IsTurned : ℕ → List ℕ → Option PlainClient → Option PlainClient → Type 0
IsTurned v ids None None = Unit {0}
IsTurned v ids (Some old) (Some new) = (new.session ≡ old.session) × AreEnded v ids old.producer.streams new.producer.streams × (new.producer ≡ record old.producer { streams = new.producer.streams })
IsTurned v ids None (Some new) = ⊥
IsTurned v ids (Some old) None = ⊥

-- a change of role that is answered `ok` ends the streams of the vBucket v of each client of the node n, before what became of durable writes is told there, and leaves the clients of all other nodes
pub record TurnsClients (w : PlainWorld) (n v : ℕ) (node : PlainNode) (ids : List ℕ) (resolved : List Resolved) (came : Outcome) : Type 0 where
  pub mid : PlainNode
  pub each : (c : ℕ) → IsTurned v ids (node.clients c) (mid.clients c)
  pub now : PlainNode
  pub is : came.0.nodes n ≡ Some now
  pub posted : now.clients ≡ (all_posted resolved mid).0.clients
  pub others : (m : ℕ) (other : PlainNode) → m ≢ n → w.nodes m ≡ Some other → (still : PlainNode) × (came.0.nodes m ≡ Some still) × (still.clients ≡ other.clients)

-- so it is with each change of role
pub record ClientsTurn (w : PlainWorld) (n v : ℕ) (node : PlainNode) (vb : Plain) : Type 0 where
  pub promote : (number uuid : ℕ) → vb.role ≢ role.Active → uuid ≢ 0 → IsFree w uuid → log_lacks vb.log uuid ≡ true → (verb_step w number (verb.AtVb n v (vb_verb.Promote uuid))).1.answer ≡ answer.Ok
      → TurnsClients w n v node (map (λ s. s.id) vb.streams) (reply_of vb (call.Promote uuid)).resolved (verb_step w number (verb.AtVb n v (vb_verb.Promote uuid)))
  pub follow : (number : ℕ) → vb.role ≢ role.Replica → (verb_step w number (verb.AtVb n v vb_verb.Follow)).1.answer ≡ answer.Ok
      → TurnsClients w n v node (map (λ s. s.id) vb.streams) (reply_of vb call.Follow).resolved (verb_step w number (verb.AtVb n v vb_verb.Follow))
  pub dead : (number : ℕ) → vb.role ≢ role.Dead → (verb_step w number (verb.AtVb n v vb_verb.Dead)).1.answer ≡ answer.Ok
      → TurnsClients w n v node (map (λ s. s.id) vb.streams) (reply_of vb call.Dead).resolved (verb_step w number (verb.AtVb n v vb_verb.Dead))

-- vBuckets after these streams of a connection were closed, one after the other
abbrev pub closed_each : List PlainStream → States → States
closed_each streams states = fold (λ states stream. (states_step states stream.vb (call.CloseStream stream.id)).0) states streams

-- `hang N C` closes each stream of the connection at its vBucket, but for those that a change of role ended, and tells nothing
pub record HangsUp (w : PlainWorld) (n c : ℕ) (client : PlainClient) (node : PlainNode) : Type 0 where
  pub closes : (number : ℕ) → (now : PlainNode) × ((verb_step w number (verb.AtClient n c client_verb.Hang)).0.nodes n ≡ Some now) × (now.clients c ≡ None) × (now.vbs ≡ closed_each (alive client.producer.streams) node.vbs)
  pub told : (number : ℕ) → (verb_step w number (verb.AtClient n c client_verb.Hang)).1 ≡ record { events = []; answer = answer.Ok }
