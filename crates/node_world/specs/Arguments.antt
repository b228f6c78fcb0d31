-- what lines that make, open, dial and arm make of their arguments
use Rattle.std.specs.Prelude.{◌≡◌, ◌≢◌, ◌<◌, ◌+◌, ◌%◌, Bool, ℕ, [], ◌∷◌, ◌++◌, Some, None}
use Rattle.dcp_producer.specs.Ending.{end_closed}
use Rattle.node_core.specs.Clients.{PlainClient, client_pulled}
use Rattle.dcp_consumer.specs.Dialing.{requests}
use Rattle.script_text.specs.declared.verb.Verb.TheVariants as verb
use Rattle.script_text.specs.declared.verb.VbVerb.TheVariants as vb_verb
use Rattle.script_text.specs.declared.verb.NodeVerb.TheVariants as node_verb
use Rattle.script_text.specs.declared.verb.ClientVerb.TheVariants as client_verb
use Rattle.vb_disk.specs.declared.fuse.Fuse.{Fuse}
use Rattle.vb_disk.specs.declared.fuse.Fuse.TheVariants as fuse
use Rattle.vb_disk.specs.declared.made.Outcome.{Outcome as Left}
use Rattle.vb_events.specs.declared.event.Answer.TheVariants as line
use Rattle.vb_events.specs.declared.event.StreamName.TheVariants as name
use Rattle.vb_types.specs.declared.role.Role.{Role}
use Rattle.vb_types.specs.declared.role.Role.TheVariants as role
use Rattle.vb_types.specs.declared.stream.StreamAsk.{StreamAsk}
use Rattle.vb_calls.specs.declared.calls.VbAnswer.TheVariants as answer
use Rattle.vb_calls.specs.declared.calls.VbCall.TheVariants as call
use Rattle.vb_calls.specs.Jobs.{after_reads}
use Rattle.vb_calls.specs.Programs.{after}
use Rattle.vb_calls.specs.State.{Plain, new_vb}
use Rattle.vb_calls.specs.States.{States}
use Rattle.node_world.specs.CallsMade.{reply_of}
use Rattle.node_world.specs.Causes.{IsFree, Notes}
use Rattle.node_world.specs.Links.{PlainLink}
use Rattle.node_world.specs.Nodes.{PlainNode, shelf_or_blank}
use Rattle.node_world.specs.World.{verb_step}
use Rattle.node_world.specs.Worlds.{PlainWorld, Outcome}

-- the connection c of the node n is as this now, with these vBuckets, and the others are as they were
pub record LeavesClient (n c : ℕ) (node now : PlainNode) (left : States) (came : Outcome) : Type 0 where
  pub is : came.0.nodes n ≡ Some now
  pub others : (d : ℕ) → d ≢ c → now.clients d ≡ node.clients d
  pub vbs : now.vbs ≡ left

-- a connection is opened under the numbers of its line, one that is hung up is gone, with its streams at their vBuckets, and one that is pulled puts so many frames at most
pub record PassesClients (w : PlainWorld) (n : ℕ) (node : PlainNode) : Type 0 where
  pub opens : (number c : ℕ) → node.clients c ≡ None → (now : PlainNode) × (client : PlainClient) × LeavesClient n c node now node.vbs (verb_step w number (verb.AtClient n c client_verb.Open)) × (now.clients c ≡ Some client)
      × (client.session.who ≡ record { node = n; client = c; base = number % 4294967296 }) × (client.producer.desk ≡ record { stream = name.Client n c; node = n; base = number % 4294967296 })
  pub hangs : (number c : ℕ) (client : PlainClient) → node.clients c ≡ Some client → (now : PlainNode) × LeavesClient n c node now (after (end_closed client.producer) node.vbs).0 (verb_step w number (verb.AtClient n c client_verb.Hang)) × (now.clients c ≡ None)
  pub pulls : (number c frames : ℕ) (client : PlainClient) → node.clients c ≡ Some client
      → let put = after_reads (client_pulled frames client) node.shelves node.vbs in (now : PlainNode) × LeavesClient n c node now put.0 (verb_step w number (verb.AtClient n c (client_verb.Pull frames))) × (now.clients c ≡ Some put.1.client)
      × ((verb_step w number (verb.AtClient n c (client_verb.Pull frames))).1 ≡ record { events = put.1.events; answer = put.1.answer })

-- the arm of the node n is this now
abbrev pub Arms : ℕ → PlainNode → Fuse → Left → Outcome → Type 0
Arms n node f out came = came.0.nodes n ≡ Some (record node { arm = record { fuse = f; out = out } })

-- a node that is made, running or not, is armed as its line says, and by 0 not at all
pub record PassesArms (w : PlainWorld) (n : ℕ) (node : PlainNode) : Type 0 where
  pub stops : (number k : ℕ) (out : Left) → k ≢ 0 → Arms n node (fuse.Stop k) out (verb_step w number (verb.AtNode n (node_verb.Stop k out)))
  pub fails : (number k : ℕ) → k ≢ 0 → (out : Left) × Arms n node (fuse.Fail k) out (verb_step w number (verb.AtNode n (node_verb.Fail k)))
  pub unstopped : (number : ℕ) (out : Left) → (left : Left) × Arms n node fuse.Off left (verb_step w number (verb.AtNode n (node_verb.Stop 0 out)))
  pub unfailed : (number : ℕ) → (left : Left) × Arms n node fuse.Off left (verb_step w number (verb.AtNode n (node_verb.Fail 0)))

-- the vBucket v of the node n is new, in this role and on this branch, and counts as one more; the others are as they were
pub record MakesVb (n v : ℕ) (r : Role) (uuid : ℕ) (node now : PlainNode) (came : Outcome) : Type 0 where
  pub is : came.0.nodes n ≡ Some now
  pub made : now.vbs v ≡ Some (new_vb n r uuid)
  pub others : (u : ℕ) → u ≢ v → now.vbs u ≡ node.vbs u
  pub count : now.made ≡ node.made + 1

-- a vBucket of a running node is made as its line says, where its first record stands
pub record PassesVbs (w : PlainWorld) (n : ℕ) (node : PlainNode) : Type 0 where
  pub active : (number v uuid : ℕ) → node.vbs v ≡ None → node.made < 64 → uuid ≢ 0 → IsFree w uuid → Notes node (shelf_or_blank (node.shelves v))
      → (now : PlainNode) × MakesVb n v role.Active uuid node now (verb_step w number (verb.AtVb n v (vb_verb.MakeActive uuid)))
  pub replica : (number v : ℕ) → node.vbs v ≡ None → node.made < 64 → Notes node (shelf_or_blank (node.shelves v)) → (now : PlainNode) × MakesVb n v role.Replica 0 node now (verb_step w number (verb.AtVb n v vb_verb.MakeReplica))

-- a link that is dialed has both its ends as its line says: a consumer of the vBucket v of the node n, which asks for a window of this size and follows or takes over, and a producer at the node m, whose streams are numbered by the line's number; and what that vBucket asks for goes up
pub record DialsAs (number l m n v buffer : ℕ) (takeover : Bool) (ask : StreamAsk) (link : PlainLink) : Type 0 where
  pub consumer : link.consumer.dialed ≡ record { link = l; node = n; vb = v; buffer = buffer; takeover = takeover }
  pub producer : link.server.desk ≡ record { stream = name.Link l; node = m; base = number % 4294967296 }
  pub up : link.up ≡ requests (record { link = l; node = n; vb = v; buffer = buffer; takeover = takeover }) ask
  pub down : link.down ≡ []

abbrev pub PassesDials : PlainWorld → ℕ → ℕ → PlainNode → Plain → Type 0
PassesDials w n v node vb = (number l m buffer : ℕ) (takeover : Bool) (ask : StreamAsk) → (reply_of vb call.Ask).answer ≡ answer.Named ask → (verb_step w number (verb.Link l m n v buffer takeover)).1.answer ≡ line.Ok
    → (link : PlainLink) × ((verb_step w number (verb.Link l m n v buffer takeover)).0.links ≡ w.links ++ link ∷ []) × DialsAs number l m n v buffer takeover ask link
