-- worlds of two nodes with a link between them, to be judged by hand
use Rattle.std.specs.Prelude.{◌≡◌, ℕ, false, ◌==◌, if◌then◌else◌, List, [], ◌∷◌, Some, None}
use Rattle.dcp_producer.specs.Producers.{PlainStream}
use Rattle.takeover.specs.declared.take_over.TakeStep.TheVariants.{Own}
use Rattle.vb_calls.specs.declared.stream.Stream.{Stream}
use Rattle.vb_types.specs.declared.role.Role.{Role}
use Rattle.vb_types.specs.declared.role.Role.TheVariants as role
use Rattle.vb_types.specs.declared.stream.StreamAsk.{StreamAsk}
use Rattle.vb_calls.specs.State.{new_vb}
use Rattle.vb_calls.specs.States.{States}
use Rattle.node_core.specs.Clients.{PlainClient, new_client}
use Rattle.node_world.specs.Arms.{PlainNode, empty_node}
use Rattle.node_world.specs.Links.{PlainLink, new_link}
use Rattle.node_world.specs.Worlds.{PlainWorld}

-- the nodes 0 and 1, and these links
abbrev pub two_nodes : PlainNode → PlainNode → List PlainLink → PlainWorld
two_nodes producer consumer links = record { nodes = λ n. if n == 0 then Some producer else if n == 1 then Some consumer else None; uuids = []; links = links }

-- the node 1 alone, and these links
abbrev pub one_node : PlainNode → List PlainLink → PlainWorld
one_node consumer links = record { nodes = λ n. if n == 1 then Some consumer else None; uuids = []; links = links }

-- a node that runs and one that is down, each with no vBucket
abbrev pub up : PlainNode
up = empty_node

abbrev pub down : PlainNode
down = record empty_node { off = Some [] }

-- the vBucket 0 in this role, alone
abbrev pub one_in : Role → States
one_in said = λ v. if v == 0 then Some (new_vb 1 said 5) else None

-- a node that runs, with that vBucket
abbrev pub has_one : Role → PlainNode
has_one said = record empty_node { vbs = one_in said }

-- the link l feeds the vBucket 0 of the node 1 from the node 0, and asks for this
abbrev pub feeding : ℕ → StreamAsk → PlainLink
feeding l ask = new_link 9 l 0 1 0 0 false ask

-- the same link, by which the vBucket took its branch over
abbrev pub owning : ℕ → StreamAsk → PlainLink
owning l ask = record (feeding l ask) { consumer = record (feeding l ask).consumer { taking = record { last = Some Own } } }

-- a node that runs, whose vBucket 0 is active and has these streams
abbrev pub has_streams : List Stream → PlainNode
has_streams streams = record empty_node { vbs = λ v. if v == 0 then Some (record (new_vb 0 role.Active 5) { streams = streams }) else None }

-- the link l, whose producer has this stream
abbrev pub streaming : ℕ → StreamAsk → PlainStream → PlainLink
streaming l ask stream = record (feeding l ask) { server = record (feeding l ask).server { streams = stream ∷ [] } }

-- the same link, whose producer has another stream before that one
abbrev pub streaming_both : ℕ → StreamAsk → PlainStream → PlainStream → PlainLink
streaming_both l ask first stream = record (feeding l ask) { server = record (feeding l ask).server { streams = first ∷ stream ∷ [] } }

-- the stream is of the vBucket 0, and no change of role ended it
abbrev pub GoesOn : PlainStream → Type 0
GoesOn stream = (stream.vb ≡ 0) × (stream.ended ≡ false)

-- a node that runs, whose vBucket 0 is active and has these streams, and two connections of whose clients, 1 and 2, have these
abbrev pub has_clients : List Stream → List PlainStream → List PlainStream → PlainNode
has_clients streams first second = record (has_streams streams) { clients = λ c. if c == 1 then Some (connected 1 first) else if c == 2 then Some (connected 2 second) else None }
  where
    connected : ℕ → List PlainStream → PlainClient
    connected c streams = record (new_client (record { node = 0; client = c; base = c })) { producer = record (new_client (record { node = 0; client = c; base = c })).producer { streams = streams } }
