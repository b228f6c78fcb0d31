-- what a line leaves of links, of connections, and of other nodes
use Rattle.std.specs.Prelude.{◌≡◌, ◌≢◌, Bool, ℕ, List, [], ◌∷◌, false, None, Some}
use Rattle.node_core.specs.Clients.{PlainClient}
use Rattle.script_text.specs.declared.verb.Verb.TheVariants as verb
use Rattle.script_text.specs.declared.verb.ClientVerb.{ClientVerb}
use Rattle.script_text.specs.declared.verb.LinkVerb.TheVariants as link_verb
use Rattle.script_text.specs.declared.verb.NodeVerb.TheVariants as node_verb
use Rattle.vb_disk.specs.declared.made.Outcome.{Outcome}
use Rattle.vb_events.specs.declared.event.Answer.TheVariants as line
use Rattle.vb_events.specs.declared.event.EndReason.{EndReason}
use Rattle.vb_events.specs.declared.event.EndReason.TheVariants as reason
use Rattle.vb_events.specs.declared.event.Event.TheVariants as event
use Rattle.vb_calls.specs.declared.calls.Resolved.{Resolved}
use Rattle.vbucket.specs.Rows.{row_out, row_put}
use Rattle.dcp_consumer.specs.Machine.{over_why}
use Rattle.node_world.specs.BytesMoved.{given_down}
use Rattle.node_world.specs.Links.{PlainLink, link_number, producer_node}
use Rattle.node_world.specs.Nodes.{PlainNode, all_posted}
use Rattle.node_world.specs.World.{verb_step}
use Rattle.node_world.specs.Worlds.{PlainWorld}

-- ---- links

-- `down`, where its answer is a number, leaves a link exactly where its dial is not over, and lets it go exactly where it is
pub record EndsOnceOver (w : PlainWorld) (l : ℕ) (link : PlainLink) (node : PlainNode) : Type 0 where
  pub goes_on : (number wanted count : ℕ) → let came = verb_step w number (verb.AtLink l (link_verb.Down wanted)) in came.1.answer ≡ line.Number count → over_why (given_down count link node).1.dial.consumer.handshake ≡ None
      → (now : PlainLink) × (came.0.links ≡ row_put link_number (link_number link) now w.links)
  pub over : (number wanted count : ℕ) (why : EndReason) → let came = verb_step w number (verb.AtLink l (link_verb.Down wanted)) in came.1.answer ≡ line.Number count → over_why (given_down count link node).1.dial.consumer.handshake ≡ Some why
      → came.0.links ≡ row_out link_number (link_number link) w.links

-- `cut` tells the end of its link alone, takes that link out, and leaves all nodes but its producer's
pub record CutsOne (w : PlainWorld) (l : ℕ) (link : PlainLink) : Type 0 where
  pub tells : (number : ℕ) → (verb_step w number (verb.AtLink l link_verb.Cut)).1 ≡ record { events = event.Ended (link_number link) reason.Cut ∷ []; answer = line.Ok }
  pub links : (number : ℕ) → (verb_step w number (verb.AtLink l link_verb.Cut)).0.links ≡ row_out link_number (link_number link) w.links
  pub others : (number m : ℕ) → m ≢ producer_node link → (verb_step w number (verb.AtLink l link_verb.Cut)).0.nodes m ≡ w.nodes m

-- a dial tells of nothing, and leaves all nodes
pub record DialsQuietly (w : PlainWorld) (l m n v buffer : ℕ) (takeover : Bool) : Type 0 where
  pub silent : (number : ℕ) → (verb_step w number (verb.Link l m n v buffer takeover)).1.events ≡ []
  pub nodes : (number k : ℕ) → (verb_step w number (verb.Link l m n v buffer takeover)).0.nodes k ≡ w.nodes k

-- ---- connections

-- no connection of a node is closed
abbrev pub NoneIsClosed : PlainNode → Type 0
NoneIsClosed node = (c : ℕ) (client : PlainClient) → node.clients c ≡ Some client → client.session.closed ≡ false

-- so it stays behind each line for a client of the node n, and behind outcomes: a connection that closed by either is none any more
pub record LetsClosedGo (w : PlainWorld) (n : ℕ) (node : PlainNode) : Type 0 where
  pub lines : (number c : ℕ) (what : ClientVerb) → NoneIsClosed node → (now : PlainNode) × ((verb_step w number (verb.AtClient n c what)).0.nodes n ≡ Some now) × NoneIsClosed now
  pub outcomes : (rs : List Resolved) → NoneIsClosed node → NoneIsClosed (all_posted rs node).0

-- ---- a crash

-- of a node all but its vBuckets is as it was
pub record KeepsBut (node now : PlainNode) : Type 0 where
  pub shelves : now.shelves ≡ node.shelves
  pub made : now.made ≡ node.made
  pub clock : now.clock ≡ node.clock
  pub clients : now.clients ≡ node.clients
  pub arm : now.arm ≡ node.arm
  pub off : now.off ≡ node.off

-- a crash leaves all of another node but the streams of its vBuckets, which end with their links
abbrev pub CrashesOne : PlainWorld → ℕ → Outcome → Type 0
CrashesOne w n out = (number m : ℕ) (node : PlainNode) → m ≢ n → w.nodes m ≡ Some node → (now : PlainNode) × ((verb_step w number (verb.AtNode n (node_verb.Crash out))).0.nodes m ≡ Some now) × KeepsBut node now
