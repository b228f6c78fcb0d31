-- whose cursor `drop L` takes away
use Rattle.std.specs.Prelude.{◌≡◌, ◌≢◌, ◌⊎◌, ◌==◌, ℕ, Bool, true, false, List, [], map, Option, Some, None}
use Rattle.std.specs.List.{find}
use Rattle.script_text.specs.declared.verb.Verb.TheVariants as verb
use Rattle.script_text.specs.declared.verb.LinkVerb.TheVariants as link_verb
use Rattle.vb_events.specs.declared.event.Answer.TheVariants as line
use Rattle.vb_calls.specs.declared.stream.Stream.{Stream}
use Rattle.vb_calls.specs.State.{Plain}
use Rattle.vb_calls.specs.States.{with_vb_at}
use Rattle.vb_calls.specs.Streams.{without_cursor}
use Rattle.dcp_producer.specs.Producers.{PlainStream}
use Rattle.node_world.specs.Links.{PlainLink, producer_node}
use Rattle.node_world.specs.Nodes.{PlainNode}
use Rattle.node_world.specs.World.{verb_step}
use Rattle.node_world.specs.Worlds.{PlainWorld, Outcome}

-- the stream that the link's producer has of the vBucket which the link feeds
abbrev pub stream_of : PlainLink → Option PlainStream
stream_of link = find (λ stream. stream.vb == link.consumer.dialed.vb) link.server.streams

-- there is none, or a change of role ended it
abbrev pub HasNoneOpen : PlainLink → Type 0
HasNoneOpen link = (stream_of link ≡ None) ⊎ ((stream : PlainStream) × (stream_of link ≡ Some stream) × (stream.ended ≡ true))

-- nothing is told but this number; the node of the link's producer is this now, and all others are as they were
pub record TellsCount (w : PlainWorld) (link : PlainLink) (node : PlainNode) (count : ℕ) (came : Outcome) : Type 0 where
  pub told : came.1 ≡ record { events = []; answer = line.Number count }
  pub is : came.0.nodes (producer_node link) ≡ Some node
  pub others : (m : ℕ) → m ≢ producer_node link → came.0.nodes m ≡ w.nodes m

-- the vBucket of the node, with none of its streams of this number having a cursor
abbrev pub lacking : PlainNode → PlainStream → Plain → PlainNode
lacking producer stream vb = record producer { vbs = with_vb_at producer.vbs stream.vb (record vb { streams = map (without_cursor stream.id) vb.streams }) }

-- `drop L` takes the cursor away of the stream that feeds the link's vBucket, at the producer's node, and of no other: its answer is 1 where the vBucket there had a cursor for it, and 0 where it had none, or where no such stream is open, and then nothing changes
pub record DropsCursor (w : PlainWorld) (l : ℕ) (link : PlainLink) (producer : PlainNode) : Type 0 where
  pub had : (number : ℕ) (stream : PlainStream) (vb : Plain) (s : Stream) → stream_of link ≡ Some stream → stream.ended ≡ false → producer.vbs stream.vb ≡ Some vb → find (λ s. s.id == stream.id) vb.streams ≡ Some s → s.cursor ≡ true
      → TellsCount w link (lacking producer stream vb) 1 (verb_step w number (verb.AtLink l link_verb.Drop))
  pub had_none : (number : ℕ) (stream : PlainStream) (vb : Plain) (s : Stream) → stream_of link ≡ Some stream → stream.ended ≡ false → producer.vbs stream.vb ≡ Some vb → find (λ s. s.id == stream.id) vb.streams ≡ Some s → s.cursor ≡ false
      → TellsCount w link (lacking producer stream vb) 0 (verb_step w number (verb.AtLink l link_verb.Drop))
  pub none : (number : ℕ) → HasNoneOpen link → TellsCount w link producer 0 (verb_step w number (verb.AtLink l link_verb.Drop))
