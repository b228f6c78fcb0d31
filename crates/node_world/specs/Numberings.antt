-- numbers that keep waits, streams and connections apart
use Rattle.std.specs.Prelude.{◌≡◌, ◌≢◌, ◌<◌, ◌+◌, ◌*◌, ◌%◌, Bool, ℕ, [], Some, None}
use Rattle.client_session.specs.Serving.{PlainSession, next_waiter}
use Rattle.node_core.specs.Clients.{PlainClient}
use Rattle.dcp_producer.specs.Producers.{PlainProducer}
use Rattle.dcp_producer.specs.Serving.{next_stream}
use Rattle.script_text.specs.declared.verb.Verb.TheVariants as verb
use Rattle.script_text.specs.declared.verb.ClientVerb.TheVariants as client_verb
use Rattle.vb_events.specs.declared.event.Answer.TheVariants as answer
use Rattle.vb_types.specs.declared.stream.StreamAsk.{StreamAsk}
use Rattle.node_world.specs.Links.{link_number, new_link}
use Rattle.node_world.specs.Nodes.{PlainNode}
use Rattle.node_world.specs.World.{base_of, verb_step}
use Rattle.node_world.specs.Worlds.{PlainWorld}

-- the next wait of a connection has a number above 0, and 0 is nobody's; it has room in 64 bits; and where two next waits have one number, the two connections have one base and asked for as many durable writes. A connection asks for at most 4294967295
pub record WaitsAreApart (s t : PlainSession) : Type 0 where
  pub someone : 0 < next_waiter s
  pub fits : s.who.base < 4294967296 → s.used < 4294967295 → next_waiter s < 18446744073709551616
  pub apart : s.used < 4294967295 → t.used < 4294967295 → next_waiter s ≡ next_waiter t → (s.who.base ≡ t.who.base) × (s.used ≡ t.used)

-- so it is with the next streams of producers: 0 is no stream's, and a producer asks for at most 4294967295
pub record StreamsAreApart (p q : PlainProducer) : Type 0 where
  pub someone : 0 < next_stream p
  pub fits : p.desk.base < 4294967296 → p.asked < 4294967295 → next_stream p < 18446744073709551616
  pub apart : p.asked < 4294967295 → q.asked < 4294967295 → next_stream p ≡ next_stream q → (p.desk.base ≡ q.desk.base) × (p.asked ≡ q.asked)

-- the bases of connections that two lines open are one where the lines are, among as many lines as a script can have
pub record BasesAreApart (line other : ℕ) : Type 0 where
  pub fits : base_of line < 4294967296
  pub apart : line < 4294967296 → other < 4294967296 → base_of line ≡ base_of other → line ≡ other

-- a line that opens a connection gives it the line's own base, for its waits and for its streams, and none of either
pub record OpensApart (w : PlainWorld) (line n c : ℕ) : Type 0 where
  pub opened : (verb_step w line (verb.AtClient n c client_verb.Open)).1.answer ≡ answer.Ok → (node : PlainNode) × (client : PlainClient) × ((verb_step w line (verb.AtClient n c client_verb.Open)).0.nodes n ≡ Some node) × (node.clients c ≡ Some client)
      × (client.session.who.base ≡ line % 4294967296) × (client.session.used ≡ 0) × (client.session.awaited ≡ None) × (client.producer.desk.base ≡ line % 4294967296) × (client.producer.streams ≡ []) × (client.producer.asked ≡ 0)

-- a new link has its own number; its producer has the base of the line, no stream yet, and a number for the first one; and its consumer's first request for one has the opaque 4, or 5 where it asks for a window
pub record LinksAreApart (line l m n v buffer : ℕ) (takeover : Bool) (ask : StreamAsk) : Type 0 where
  pub number : link_number (new_link line l m n v buffer takeover ask) ≡ l
  pub base : (new_link line l m n v buffer takeover ask).server.desk.base ≡ line % 4294967296
  pub streams : ((new_link line l m n v buffer takeover ask).server.streams ≡ []) × ((new_link line l m n v buffer takeover ask).server.asked ≡ 0)
  pub first : next_stream (new_link line l m n v buffer takeover ask).server ≡ line % 4294967296 * 4294967296 + 1
  pub opaque : buffer ≡ 0 → (new_link line l m n v buffer takeover ask).consumer.asked ≡ 4
  pub later : buffer ≢ 0 → (new_link line l m n v buffer takeover ask).consumer.asked ≡ 5
