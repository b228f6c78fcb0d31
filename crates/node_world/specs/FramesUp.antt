-- frames that go up one after the other, and bytes that begin none
use Rattle.std.specs.Prelude.{◌≡◌, ◌≢◌, ℕ, List, [], ◌∷◌, ◌++◌, drop, false, length, min, take, None, Ok, Some}
use Rattle.client_session.specs.declared.session.Awaited.{Awaited}
use Rattle.client_session.specs.Serving.{PlainSession}
use Rattle.node_core.specs.Clients.{PlainClient}
use Rattle.mcbp_frame.specs.Cutting.{front_fault}
use Rattle.mcbp_frame.specs.Frames.{first_frame, frame_len}
use Rattle.mcbp_frame.specs.declared.frame.Frame.{Frame}
use Rattle.mcbp_frame.specs.declared.frame.FrameFault.{FrameFault}
use Rattle.mcbp_frame.specs.declared.frame.TheConstants.{RESPONSE}
use Rattle.mcbp_kv.specs.Requests.{request_of}
use Rattle.mcbp_kv.specs.declared.request.KvRequest.TheVariants as asks
use Rattle.script_text.specs.declared.verb.Verb.TheVariants as verb
use Rattle.script_text.specs.declared.verb.LinkVerb.TheVariants as link_verb
use Rattle.vb_events.specs.declared.event.Event.{Event}
use Rattle.vb_types.specs.declared.write.Write.{Write}
use Rattle.vb_calls.specs.Plain.{plain_step}
use Rattle.vb_calls.specs.Programs.{after}
use Rattle.vb_calls.specs.State.{Plain}
use Rattle.vb_calls.specs.States.{States}
use Rattle.vb_calls.specs.declared.calls.Resolved.{Resolved}
use Rattle.vb_calls.specs.declared.calls.VbCall.TheVariants as call
use Rattle.vbucket.specs.Rows.{row_put}
use Rattle.node_core.specs.Peers.{PeerResult, peer_answered, peer_frames, peer_heard}
use Rattle.node_world.specs.Links.{PlainLink, link_number, peer_of, producer_node}
use Rattle.node_world.specs.Nodes.{PlainNode, all_posted, posted, with_states}
use Rattle.node_world.specs.Posting.{AwaitsAlone}
use Rattle.node_world.specs.World.{verb_step}
use Rattle.node_world.specs.Worlds.{PlainWorld}

-- the first bytes of a link's way up, as many as are wanted or all that there are
abbrev pub piece_up : ℕ → PlainLink → List ℕ
piece_up wanted link = take (min wanted (length link.up)) link.up

-- The outcomes of a frame are posted before the next frame of the same bytes is answered: the next one is answered by vBuckets as the posts left them, and its lines stand behind those of the posts.
pub record PostsBetween (w : PlainWorld) (l : ℕ) (link : PlainLink) (producer : PlainNode) : Type 0 where
  pub second : (number wanted : ℕ) (f g : Frame) (more : List Frame) (first next : States × PeerResult) → peer_frames (piece_up wanted link) (peer_of link) ≡ f ∷ g ∷ more
      → after (peer_answered f (peer_heard (piece_up wanted link) (peer_of link))) producer.vbs ≡ first
      → after (peer_answered g first.1.peer) (all_posted first.1.resolved (with_states producer first.0)).0.vbs ≡ next
      → (rest : List Event) × ((verb_step w number (verb.AtLink l (link_verb.Up wanted))).1.events
      ≡ (first.1.events ++ (all_posted first.1.resolved (with_states producer first.0)).1) ++ (next.1.events ++ rest))

-- Behind bytes that begin no frame nothing is answered: no line is told, the producer's node is as it was, and nothing goes down.
pub record PassesFaults (w : PlainWorld) (l : ℕ) (link : PlainLink) (producer : PlainNode) : Type 0 where
  pub silent : (number wanted : ℕ) (fault : FrameFault) → front_fault link.up_heard ≡ Some fault → (verb_step w number (verb.AtLink l (link_verb.Up wanted))).1.events ≡ []
  pub node : (number wanted : ℕ) (fault : FrameFault) → front_fault link.up_heard ≡ Some fault → (verb_step w number (verb.AtLink l (link_verb.Up wanted))).0.nodes (producer_node link) ≡ Some producer
  pub down : (number wanted : ℕ) (fault : FrameFault) → front_fault link.up_heard ≡ Some fault
      → (now : PlainLink) × ((verb_step w number (verb.AtLink l (link_verb.Up wanted))).0.links ≡ row_put link_number (link_number link) now w.links) × (now.down ≡ link.down)

-- a connection, which is open, awaits an outcome, and its one request behind that is whole
pub record HoldsOne (session : PlainSession) (f : Frame) : Type 0 where
  pub live : session.closed ≡ false
  pub whole : first_frame session.reader ≡ Some (Ok f)
  pub alone : drop (frame_len f) session.reader ≡ []
  pub asks : f.magic ≢ RESPONSE

-- where that is a write, it is made when the outcome is posted, at the node's clock
abbrev pub ServesBehind : Resolved → ℕ → PlainClient → Awaited → PlainNode → Type 0
ServesBehind r c client a node = (f : Frame) (vb : Plain) (write : Write) → AwaitsAlone r.waiter c client a node → HoldsOne client.session f → request_of client.session.settings.json f ≡ Ok (asks.Write write None)
    → node.vbs f.vb_or_status ≡ Some vb → (posted r node).0.vbs f.vb_or_status ≡ Some (plain_step vb (call.Store write node.clock)).0
