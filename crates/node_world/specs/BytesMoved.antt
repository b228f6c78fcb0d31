-- how many bytes a line moves over a link, and which
use Rattle.std.specs.Prelude.{◌≡◌, ◌≤◌, ◌⊎◌, ℕ, List, ◌++◌, drop, take, length}
use Rattle.script_text.specs.declared.verb.Verb.TheVariants as verb
use Rattle.script_text.specs.declared.verb.LinkVerb.TheVariants as link_verb
use Rattle.vb_events.specs.declared.event.Answer.TheVariants as line
use Rattle.vb_calls.specs.Jobs.{after_job}
use Rattle.vb_calls.specs.Shelves.{Shelves}
use Rattle.vb_calls.specs.States.{States}
use Rattle.vbucket.specs.Rows.{row_out, row_put}
use Rattle.node_core.specs.Dials.{DialResult, dial_bytes}
use Rattle.node_core.specs.Peers.{PeerResult}
use Rattle.node_world.specs.Arms.{placed}
use Rattle.node_world.specs.Links.{PlainLink, dial_of, link_number, peer_given, peer_of}
use Rattle.node_world.specs.Nodes.{PlainNode}
use Rattle.node_world.specs.World.{verb_step}
use Rattle.node_world.specs.Worlds.{PlainWorld}

-- so many are moved where so many were wanted and so many are on their way: all that are wanted, or all that there are
pub record IsMost (wanted there count : ℕ) : Type 0 where
  pub few : wanted ≤ there → count ≡ wanted
  pub all : there ≤ wanted → count ≡ there

-- the link is still there, with so many bytes less on one of its ways, and what came of them behind those on the other
pub record Takes (way other : PlainLink → List ℕ) (count : ℕ) (out : List ℕ) (link now : PlainLink) (links links' : List PlainLink) : Type 0 where
  pub links_are : links' ≡ row_put link_number (link_number link) now links
  pub left : way now ≡ drop count (way link)
  pub answered : other now ≡ other link ++ out

-- what comes of the first bytes on a link's way up, at its producer's node, and down, at its consumer's
abbrev pub given_up : ℕ → PlainLink → PlainNode → PlainNode × PeerResult
given_up count link producer = peer_given (take count link.up) (peer_of link) producer

abbrev pub given_down : ℕ → PlainLink → PlainNode → (States × Shelves) × DialResult
given_down count link node = after_job (dial_bytes (take count link.down) (dial_of link)) node.vbs (placed link.consumer.dialed.vb node).shelves

-- `up` gives the first bytes that the consumer wrote to the producer, and `down`, where its answer is a number, those that the producer wrote to the consumer; they are as many as the answer says, and the line tells what came of them. The link stays, or after `down` it may be over and gone
pub record BytesMoved (w : PlainWorld) (l : ℕ) (link : PlainLink) (producer node : PlainNode) : Type 0 where
  pub up : (number wanted : ℕ) → let came = verb_step w number (verb.AtLink l (link_verb.Up wanted)) in (count : ℕ) × (came.1.answer ≡ line.Number count) × IsMost wanted (length link.up) count × (came.1.events ≡ (given_up count link producer).1.events)
      × (now : PlainLink) × Takes (λ x. x.up) (λ x. x.down) count (given_up count link producer).1.out link now w.links came.0.links
  pub down : (number wanted count : ℕ) → let came = verb_step w number (verb.AtLink l (link_verb.Down wanted)) in came.1.answer ≡ line.Number count → IsMost wanted (length link.down) count × (came.1.events ≡ (given_down count link node).1.events)
      × (((now : PlainLink) × Takes (λ x. x.down) (λ x. x.up) count (given_down count link node).1.out link now w.links came.0.links) ⊎ (came.0.links ≡ row_out link_number (link_number link) w.links))
