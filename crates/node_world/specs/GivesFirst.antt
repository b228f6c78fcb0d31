-- pumps that give vBuckets up before they put their frames, in the words of streams
use Rattle.std.specs.Prelude.{◌≡◌, ◌≢◌, ◌⊎◌, ◌==◌, if◌then◌else◌, ℕ, List, ◌++◌, map, Some}
use Rattle.std.specs.List.{flat_map}
use Rattle.std.specs.Option.{option_map}
use Rattle.vb_events.specs.declared.event.Event.{Event}
use Rattle.vb_events.specs.declared.event.Event.TheVariants as event
use Rattle.vb_types.specs.declared.role.Role.TheVariants as role
use Rattle.vb_calls.specs.Jobs.{after_reads}
use Rattle.vb_calls.specs.Programs.{after}
use Rattle.vb_calls.specs.States.{States}
use Rattle.vbucket.specs.Rows.{row_put}
use Rattle.dcp_producer.specs.Holding.{IsShut}
use Rattle.dcp_producer.specs.Producers.{PlainProducer}
use Rattle.dcp_producer.specs.declared.yields.Yielded.{Yielded}
use Rattle.node_core.specs.Clients.{PlainClient}
use Rattle.node_core.specs.GivingLaws.{IsDue, ended_also}
use Rattle.node_core.specs.GivingUp.{GiveResult, peer_gives_up}
use Rattle.node_core.specs.Peers.{PullResult, peer_pulled}
use Rattle.node_world.specs.Links.{PlainLink, link_number, peer_of, producer_node}
use Rattle.node_world.specs.Nodes.{PlainNode, all_posted}
use Rattle.node_world.specs.Pairing.{Each}
use Rattle.node_world.specs.Worlds.{PlainWorld, Outcome}

-- a connection loses the streams that were named as these vBuckets were given up; nothing else of it changes
abbrev pub losing_end : List Yielded → PlainProducer → PlainProducer
losing_end given end = record end { streams = map (ended_also given) end.streams }

-- so does a client's
abbrev pub losing_client : List Yielded → PlainClient → PlainClient
losing_client given client = record client { producer = losing_end given client.producer }

-- and that of a link whose producer is at the node n
abbrev pub losing_link : ℕ → List Yielded → PlainLink → PlainLink
losing_link n given link = if producer_node link == n then record link { server = losing_end given link.server } else link

-- the node with these vBuckets, where each client's connection lost such streams
abbrev pub losing_node : List Yielded → States → PlainNode → PlainNode
losing_node given states node = record node { vbs = states; clients = λ c. option_map (losing_client given) (node.clients c) }

-- the link, whose producer put this
abbrev pub pumped_link : PlainLink → PullResult → PlainLink
pumped_link link put = record link { server = put.peer.producer; up_heard = put.peer.heard; down = link.down ++ put.out }

-- A pump of so many frames over an open link. First its producer's streams give vBuckets of its node up. Each is told dead by one line, in that order, and each connection of the node, of a link or of a client, also this link's own, loses the streams that were named. Then what became of durable writes there is posted to the clients that await it, whose lines stand behind. Then frames are put, of the vBuckets as the posts left them; their lines stand last, they go down behind what is on its way, and the answer is theirs. Nothing goes up, and other nodes stay
pub record GivesFirst (w : PlainWorld) (link : PlainLink) (producer : PlainNode) (frames : ℕ) (came : Outcome) : Type 0 where
  pub states : States
  pub gave : GiveResult
  pub gives : after (peer_gives_up frames (peer_of link)) producer.vbs ≡ (states, gave)
  pub posted : PlainNode
  pub replies : List Event
  pub posts : all_posted (flat_map (λ one. one.resolved) gave.given) (losing_node gave.given states producer) ≡ (posted, replies)
  pub left : States
  pub put : PullResult
  pub puts : after_reads (peer_pulled frames (record gave.peer { producer = losing_end gave.given gave.peer.producer })) posted.shelves posted.vbs ≡ (left, put)
  pub lines : came.1.events ≡ (map (λ one. event.Role (producer_node link) one.vb role.Dead) gave.given ++ replies) ++ put.events
  pub said : came.1.answer ≡ put.answer
  pub node : came.0.nodes (producer_node link) ≡ Some (record posted { vbs = left })
  pub others : (m : ℕ) → m ≢ producer_node link → came.0.nodes m ≡ w.nodes m
  pub links : came.0.links ≡ row_put link_number (link_number link) (pumped_link link put) (map (losing_link (producer_node link) gave.given) w.links)

-- no vBucket is to be given up in front of so many frames: none is asked for, the window is shut, or no stream is due
abbrev pub GivesNothing : ℕ → PlainLink → Type 0
GivesNothing frames link = (frames ≡ 0) ⊎ IsShut link.server.window ⊎ Each (λ stream. IsDue stream → ⊥) link.server.streams

-- then frames are put, and nothing else is told or changed
pub record PutsAlone (w : PlainWorld) (link : PlainLink) (producer : PlainNode) (frames : ℕ) (came : Outcome) : Type 0 where
  pub left : States
  pub put : PullResult
  pub puts : after_reads (peer_pulled frames (peer_of link)) producer.shelves producer.vbs ≡ (left, put)
  pub told : came.1 ≡ record { events = put.events; answer = put.answer }
  pub node : came.0.nodes (producer_node link) ≡ Some (record producer { vbs = left })
  pub others : (m : ℕ) → m ≢ producer_node link → came.0.nodes m ≡ w.nodes m
  pub links : came.0.links ≡ row_put link_number (link_number link) (pumped_link link put) w.links
