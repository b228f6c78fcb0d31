-- each line that may settle durable writes tells the client that waits
use Rattle.std.specs.Prelude.{◌≡◌, ◌≢◌, ◌⊎◌, ◌==◌, if◌then◌else◌, ℕ, List, [], ◌∷◌, ◌++◌, filter, map, min, length, take, true, Option, Some}
use Rattle.std.specs.List.{flat_map}
use Rattle.client_session.specs.declared.session.Awaited.{Awaited}
use Rattle.client_session.specs.Conduct.{sent}
use Rattle.client_session.specs.Rows.{IsOutcome}
use Rattle.node_core.specs.Clients.{PlainClient}
use Rattle.dcp_producer.specs.Ending.{ended_by}
use Rattle.durability.specs.Chains.{Members}
use Rattle.mcbp_frame.specs.declared.frame.Frame.{Frame}
use Rattle.script_text.specs.declared.verb.Verb.TheVariants as verb
use Rattle.script_text.specs.declared.verb.VbVerb.TheVariants as vb_verb
use Rattle.script_text.specs.declared.verb.LinkVerb.TheVariants as link_verb
use Rattle.vb_events.specs.declared.event.Answer.TheVariants as line
use Rattle.vb_events.specs.declared.event.EndReason.TheVariants as reason
use Rattle.vb_events.specs.declared.event.Event.{Event}
use Rattle.vb_events.specs.declared.event.Event.TheVariants as event
use Rattle.vb_types.specs.declared.role.Role.TheVariants as role
use Rattle.vb_calls.specs.declared.calls.Resolved.{Resolved}
use Rattle.vb_calls.specs.declared.calls.VbAnswer.TheVariants as answer
use Rattle.vb_calls.specs.declared.calls.VbCall.TheVariants as call
use Rattle.vb_calls.specs.declared.calls.VbReply.{VbReply}
use Rattle.vb_calls.specs.Following.{log_lacks}
use Rattle.vb_calls.specs.Programs.{after}
use Rattle.vb_calls.specs.Shelves.{Shelf, Written}
use Rattle.vb_calls.specs.State.{Plain}
use Rattle.vb_calls.specs.States.{States}
use Rattle.node_core.specs.GivingUp.{peer_gives_up}
use Rattle.node_core.specs.Peers.{PeerResult, peer_answered, peer_frames, peer_heard}
use Rattle.node_world.specs.CallsMade.{reply_of}
use Rattle.node_world.specs.Causes.{IsFree, MayJoin}
use Rattle.node_world.specs.Links.{PlainLink, feeds, peer_of, producer_node}
use Rattle.node_world.specs.Nodes.{PlainNode}
use Rattle.node_world.specs.Posting.{AwaitsAlone}
use Rattle.node_world.specs.World.{verb_step}
use Rattle.node_world.specs.Worlds.{PlainWorld}

-- behind these lines an outcome is told by an answer to the request that awaits it
pub record TellsBehind (r : Resolved) (client : PlainClient) (a : Awaited) (before events : List Event) : Type 0 where
  pub frame : Frame
  pub is : IsOutcome client.session.settings a.opcode a.opaque r.how frame
  pub rest : List Event
  pub told : events ≡ before ++ sent client.session.who frame ∷ rest

-- behind the lines of its changes a line tells the first of these outcomes to the client of the node that awaits it, whichever that is
abbrev pub TellsOutcomes : PlainNode → List Resolved → List Event → List Event → Type 0
TellsOutcomes node resolved before events = (r : Resolved) (later : List Resolved) (c : ℕ) (client : PlainClient) (a : Awaited) → resolved ≡ r ∷ later → AwaitsAlone r.waiter c client a node → TellsBehind r client a before events

-- the lines of the changes that a vBucket's reply names
abbrev pub changes_of : ℕ → ℕ → VbReply → List Event
changes_of n v reply = map (event.Changed n v reply.branch) reply.changes

-- the outcomes of a reply are told so behind its changes
abbrev pub TellsReply : ℕ → ℕ → PlainNode → VbReply → List Event → Type 0
TellsReply n v node reply events = TellsOutcomes node reply.resolved (changes_of n v reply) events

-- no line, or that of the one link that was cut
abbrev pub IsCut : List Event → Type 0
IsCut cuts = (cuts ≡ []) ⊎ ((l : ℕ) × (cuts ≡ event.Ended l reason.Cut ∷ []))

-- behind the lines of a change of role, which begin with the end of the vBucket's own link, if it had one
abbrev pub TellsTurn : PlainNode → VbReply → List Event → List Event → Type 0
TellsTurn node reply lines events = (cuts : List Event) × IsCut cuts × TellsOutcomes node reply.resolved (cuts ++ lines) events

-- lines for the vBucket v of the running node n
pub record OutcomesTold (w : PlainWorld) (n v : ℕ) (node : PlainNode) (vb : Plain) : Type 0 where
  pub chain : (number : ℕ) (others : Members) → vb.role ≡ role.Active → MayJoin n others → TellsReply n v node (reply_of vb (call.Chain (record { active = n; others = others }))) (verb_step w number (verb.AtVb n v (vb_verb.Chain others))).1.events
  pub tick : (number : ℕ) → vb.role ≡ role.Active → TellsReply n v node (reply_of vb (call.Tick node.clock)) (verb_step w number (verb.AtVb n v vb_verb.Tick)).1.events
  pub done : (number seq : ℕ) (shelf : Shelf) → node.shelves v ≡ Some shelf → shelf.flush ≡ Written seq → TellsReply n v node (reply_of vb (call.FlushDone seq)) (verb_step w number (verb.AtVb n v vb_verb.Done)).1.events
  pub promote : (number uuid fork high : ℕ) (parent : Option ℕ) → vb.role ≢ role.Active → uuid ≢ 0 → IsFree w uuid → log_lacks vb.log uuid ≡ true → (reply_of vb (call.Promote uuid)).answer ≡ answer.Branch uuid parent fork high
      → TellsTurn node (reply_of vb (call.Promote uuid)) (event.Branch n v uuid parent fork high ∷ event.Role n v role.Active ∷ changes_of n v (reply_of vb (call.Promote uuid)))
      (verb_step w number (verb.AtVb n v (vb_verb.Promote uuid))).1.events
  pub follow : (number : ℕ) → vb.role ≢ role.Replica → TellsTurn node (reply_of vb call.Follow) (event.Role n v role.Replica ∷ []) (verb_step w number (verb.AtVb n v vb_verb.Follow)).1.events
  pub dead : (number : ℕ) → vb.role ≢ role.Dead → TellsTurn node (reply_of vb call.Dead) (event.Role n v role.Dead ∷ []) (verb_step w number (verb.AtVb n v vb_verb.Dead)).1.events

-- a change of role is told so behind the end of the vBucket's own link, if it had one, and in front of all else: so before anything that its clients are told
abbrev pub TurnsAs : List Event → List Event → Type 0
TurnsAs lines events = (cuts : List Event) × (rest : List Event) × IsCut cuts × (events ≡ (cuts ++ lines) ++ rest)

-- each change of role is the one that its line names
pub record RolesTold (w : PlainWorld) (n v : ℕ) (vb : Plain) : Type 0 where
  pub promote : (number uuid fork high : ℕ) (parent : Option ℕ) → vb.role ≢ role.Active → uuid ≢ 0 → IsFree w uuid → log_lacks vb.log uuid ≡ true → (reply_of vb (call.Promote uuid)).answer ≡ answer.Branch uuid parent fork high
      → TurnsAs (event.Branch n v uuid parent fork high ∷ event.Role n v role.Active ∷ changes_of n v (reply_of vb (call.Promote uuid))) (verb_step w number (verb.AtVb n v (vb_verb.Promote uuid))).1.events
  pub follow : (number : ℕ) → vb.role ≢ role.Replica → TurnsAs (event.Role n v role.Replica ∷ []) (verb_step w number (verb.AtVb n v vb_verb.Follow)).1.events
  pub dead : (number : ℕ) → vb.role ≢ role.Dead → TurnsAs (event.Role n v role.Dead ∷ []) (verb_step w number (verb.AtVb n v vb_verb.Dead)).1.events

-- the first frame that goes up: what became of durable writes when it was answered is told behind what the answer told
pub record UpsTell (w : PlainWorld) (l : ℕ) (link : PlainLink) (producer : PlainNode) : Type 0 where
  pub first : (number wanted : ℕ) (f : Frame) (more : List Frame) (answered : States × PeerResult) →
      let piece = take (min wanted (length link.up)) link.up in peer_frames piece (peer_of link) ≡ f ∷ more → after (peer_answered f (peer_heard piece (peer_of link))) producer.vbs ≡ answered
      → TellsOutcomes producer answered.1.resolved answered.1.events (verb_step w number (verb.AtLink l (link_verb.Up wanted))).1.events

-- a pump: what became of durable writes as vBuckets were given up is told behind the lines of all of these
pub record PumpsTell (w : PlainWorld) (l : ℕ) (link : PlainLink) (producer : PlainNode) : Type 0 where
  pub first : (number frames : ℕ) → let gave = (after (peer_gives_up frames (peer_of link)) producer.vbs).1 in
      TellsOutcomes producer (flat_map (λ one. one.resolved) gave.given) (map (λ one. event.Role (producer_node link) one.vb role.Dead) gave.given) (verb_step w number (verb.AtLink l (link_verb.Pump frames))).1.events

-- a link whose producer is at the node n, once that was told that these streams of the vBucket v ended
abbrev pub with_streams_ended : ℕ → ℕ → List ℕ → PlainLink → PlainLink
with_streams_ended n v ids link = if producer_node link == n then record link { server = ended_by v ids link.server } else link

-- where no link feeds the vBucket v of the node n, each change of its role that is answered `ok` leaves all links, and tells each producer at the node which streams of the vBucket ended: all
pub record EndsTold (w : PlainWorld) (n v : ℕ) (vb : Plain) : Type 0 where
  pub promote : (number uuid : ℕ) → vb.role ≢ role.Active → uuid ≢ 0 → IsFree w uuid → log_lacks vb.log uuid ≡ true → filter (feeds n v) w.links ≡ [] → (verb_step w number (verb.AtVb n v (vb_verb.Promote uuid))).1.answer ≡ line.Ok
      → (verb_step w number (verb.AtVb n v (vb_verb.Promote uuid))).0.links ≡ map (with_streams_ended n v (map (λ s. s.id) vb.streams)) w.links
  pub follow : (number : ℕ) → vb.role ≢ role.Replica → filter (feeds n v) w.links ≡ [] → (verb_step w number (verb.AtVb n v vb_verb.Follow)).1.answer ≡ line.Ok
      → (verb_step w number (verb.AtVb n v vb_verb.Follow)).0.links ≡ map (with_streams_ended n v (map (λ s. s.id) vb.streams)) w.links
  pub dead : (number : ℕ) → vb.role ≢ role.Dead → filter (feeds n v) w.links ≡ [] → (verb_step w number (verb.AtVb n v vb_verb.Dead)).1.answer ≡ line.Ok → (verb_step w number (verb.AtVb n v vb_verb.Dead)).0.links ≡ map (with_streams_ended n v (map (λ s. s.id) vb.streams)) w.links
