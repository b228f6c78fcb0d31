-- vBuckets that a producer's node gives up before a pump puts its frames, and what is told of that there
use Rattle.std.specs.Prelude.{ℕ, List, [], map, Option, Some, None}
use Rattle.std.specs.List.{flat_map, fold}
use Rattle.vb_calls.specs.Programs.{after}
use Rattle.vb_calls.specs.States.{States}
use Rattle.vbucket.specs.Rows.{row_put}
use Rattle.dcp_producer.specs.declared.yields.Yielded.{Yielded}
use Rattle.node_core.specs.GivingUp.{GiveResult, dead_line, peer_gives_up, resolved_in}
use Rattle.node_core.specs.Peers.{PlainPeer}
use Rattle.node_world.specs.Links.{PlainLink, link_number, peer_of, producer_node}
use Rattle.node_world.specs.Nodes.{PlainNode, done, with_states}
use Rattle.node_world.specs.Turns.{posted_in, with_ended}
use Rattle.node_world.specs.Worlds.{PlainWorld, Outcome, with_links, with_node_at}

-- the link with this end at its producer
abbrev pub with_end : PlainLink → PlainPeer → PlainLink
with_end link peer = record link { server = peer.producer; up_heard = peer.heard }

-- the world once a link's producer gave vBuckets of its node up, which made this of these and of its end; nobody else is told yet
abbrev pub with_gone : PlainLink → PlainNode → States → PlainPeer → PlainWorld → PlainWorld
with_gone link node states peer w = with_links (with_node_at w (producer_node link) (with_states node states)) (row_put link_number (link_number link) (with_end link peer) w.links)

-- the producers at the node n, of links and of clients, are told which streams ended as one vBucket was given up
abbrev pub with_yielded : ℕ → PlainWorld → Yielded → PlainWorld
with_yielded n w one = with_ended n one.vb one.ended w

-- and as several were, one after the other
abbrev pub with_given : ℕ → List Yielded → PlainWorld → PlainWorld
with_given n given w = fold (with_yielded n) w given

-- vBuckets were given up: a line for each, and behind them what became of durable writes there is told to who awaits it
abbrev pub gone_told : PlainLink → PlainNode → PlainWorld → States × GiveResult → Outcome
gone_told link node w (states, gave) =
    let n = producer_node link in
    posted_in n (flat_map resolved_in gave.given) (with_given n gave.given (with_gone link node states gave.peer w), done (map (dead_line n) gave.given))

-- the streams of a link's producer give vBuckets up, in front of so many frames; the nodes of a link are made
abbrev pub gives_at : ℕ → PlainLink → PlainWorld → Option PlainNode → Outcome
gives_at frames link w None = (w, done [])
gives_at frames link w (Some node) = gone_told link node w (after (peer_gives_up frames (peer_of link)) node.vbs)

-- so it is with the producer of a link, where it is open
abbrev pub gives_up : ℕ → PlainWorld → Option PlainLink → Outcome
gives_up frames w None = (w, done [])
gives_up frames w (Some link) = gives_at frames link w (w.nodes (producer_node link))
