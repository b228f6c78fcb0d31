-- links between nodes: a consumer's end at one, the producer's end at another, and the bytes between them
use Rattle.std.specs.Prelude.{ℕ, ◌%◌, ◌^◌, ◌==◌, ◌&&◌, ◌||◌, if◌then◌else◌, Bool, min, List, [], ◌∷◌, ◌++◌, length, take, drop, Option, Some, None}
use Rattle.std.specs.List.{list_any}
use Rattle.vb_events.specs.declared.event.Event.{Event}
use Rattle.vb_events.specs.declared.event.StreamName.TheVariants as name
use Rattle.vb_events.specs.declared.event.EndReason.{EndReason}
use Rattle.vb_events.specs.declared.event.Answer.{Answer}
use Rattle.vb_events.specs.declared.event.Answer.TheVariants as answer
use Rattle.vb_events.specs.declared.event.Cause.TheVariants as cause
use Rattle.vb_types.specs.declared.stream.StreamAsk.{StreamAsk}
use Rattle.vb_calls.specs.State.{Plain}
use Rattle.vb_calls.specs.Following.{ask_row}
use Rattle.vb_calls.specs.Jobs.{after_job}
use Rattle.vb_calls.specs.Programs.{after}
use Rattle.vb_calls.specs.Shelves.{Shelves}
use Rattle.vb_calls.specs.States.{States}
use Rattle.dcp_producer.specs.Dropping.{cursor_dropped}
use Rattle.dcp_producer.specs.Producers.{PlainProducer, new_end}
use Rattle.dcp_consumer.specs.Dialing.{requests}
use Rattle.dcp_consumer.specs.Machine.{PlainConsumer, dialed_consumer, over_why}
use Rattle.node_core.specs.Calls.{named_ask}
use Rattle.mcbp_frame.specs.declared.frame.Frame.{Frame}
use Rattle.node_core.specs.Peers.{PlainPeer, PeerResult, PullResult, peer_heard, peer_frames, peer_answered, peer_pulled}
use Rattle.node_core.specs.Dials.{PlainDial, DialResult, dial_bytes, is_broken}
use Rattle.node_world.specs.declared.told.Told.{Told}
use Rattle.node_world.specs.Nodes.{PlainNode, all_posted, with_kept, with_states}

-- a link: the producer and the consumer at its ends, what each has heard of bytes that are no whole frame yet, and the bytes on their way up to the producer and down to the consumer
pub record PlainLink : Type 0 where
  pub server : PlainProducer
  pub consumer : PlainConsumer
  pub up_heard : List ℕ
  pub up : List ℕ
  pub down_heard : List ℕ
  pub down : List ℕ

-- the link's own number
abbrev pub link_number : PlainLink → ℕ
link_number link = link.consumer.dialed.link

-- the node at its producer's end
abbrev pub producer_node : PlainLink → ℕ
producer_node link = link.server.desk.node

-- the node at its consumer's end
abbrev pub consumer_node : PlainLink → ℕ
consumer_node link = link.consumer.dialed.node

-- the producer's end, as its node keeps it
abbrev pub peer_of : PlainLink → PlainPeer
peer_of link = record { heard = link.up_heard; producer = link.server }

-- the consumer's end, as its node keeps it
abbrev pub dial_of : PlainLink → PlainDial
dial_of link = record { heard = link.down_heard; consumer = link.consumer }

-- whether a link feeds the vBucket v of the node n
abbrev pub feeds : ℕ → ℕ → PlainLink → Bool
feeds n v link = link.consumer.dialed.node == n && link.consumer.dialed.vb == v

-- a link of this number is open, or one that feeds this vBucket
abbrev pub is_taken : List PlainLink → ℕ → ℕ → ℕ → Bool
is_taken links l n v = list_any (λ link. link_number link == l || feeds n v link) links

-- what a vBucket asks for as a consumer, if it follows others
abbrev pub ask_of : Plain → Option StreamAsk
ask_of vb = named_ask (ask_row vb).answer

-- the number by which the waits or the streams of a connection are numbered that the line of this number opens: no other connection of a script has it, whose lines are fewer
abbrev pub base_of : ℕ → ℕ
base_of line = line % 2 ^ 32

-- the link l from the vBucket v of the node n to the node m, whose consumer asks for a window of this size, and to take the vBucket over or to follow; the streams of its producer are numbered by the script's line
abbrev pub new_link : ℕ → ℕ → ℕ → ℕ → ℕ → ℕ → Bool → StreamAsk → PlainLink
new_link line l m n v buffer takeover ask = record {
  server = new_end (record { stream = name.Link l; node = m; base = base_of line });
  consumer = dialed_consumer (record { link = l; node = n; vb = v; buffer = buffer; takeover = takeover });
  up_heard = [];
  up = requests (record { link = l; node = n; vb = v; buffer = buffer; takeover = takeover }) ask;
  down_heard = [];
  down = [];
}

-- a link in a line: as it is then, unless it is over, and what is told of the line
abbrev pub LinkResult : Type 0
LinkResult = Option PlainLink × Told

-- so many bytes were moved
abbrev pub moved : ℕ → List Event → Told
moved n events = record { events = events; answer = answer.Number n }

-- how many bytes are moved of a queue: as many as are wanted, or all that there are
abbrev pub moved_len : ℕ → List ℕ → ℕ
moved_len wanted queue = min wanted (length queue)

-- the link with this end at its producer, which put these bytes on their way down
abbrev pub with_server : PlainLink → PlainPeer → List ℕ → PlainLink
with_server link peer out = record link { server = peer.producer; up_heard = peer.heard; down = link.down ++ out }

-- the link with what its consumer wrote less n bytes, and with what its producer made of them
abbrev pub with_up : PlainLink → ℕ → PeerResult → PlainLink
with_up link n told = with_server (record link { up = drop n link.up }) told.peer told.out

-- a producer's end of which nothing is told yet
abbrev pub untold_peer : PlainPeer → PeerResult
untold_peer peer = record { peer = peer; events = []; out = []; resolved = [] }

-- a frame of a producer's end was answered, which made this of the vBuckets: what became of durable writes is posted at once
abbrev pub peer_posted : PlainNode → States × PeerResult → PlainNode × PeerResult
peer_posted node (states, told) =
    let (node', lines) = all_posted told.resolved (with_states node states) in
    (node', record { peer = told.peer; events = told.events ++ lines; out = told.out; resolved = [] })

-- a frame is answered
abbrev pub frame_posted : Frame → PlainPeer → PlainNode → PlainNode × PeerResult
frame_posted f peer node = peer_posted node (after (peer_answered f peer) node.vbs)

-- what is told now, behind what was told before
abbrev pub result_behind : PeerResult → PlainNode × PeerResult → PlainNode × PeerResult
result_behind before (node, told) = (node, record told { events = before.events ++ told.events; out = before.out ++ told.out })

-- one more frame is answered
abbrev pub frame_up : Frame → PlainNode × PeerResult → PlainNode × PeerResult
frame_up f (node, told) = result_behind told (frame_posted f told.peer node)

-- frames, one after the other
abbrev pub frames_up : List Frame → PlainNode × PeerResult → PlainNode × PeerResult
frames_up [] came = came
frames_up (f ∷ fs) came = frames_up fs (frame_up f came)

-- a producer's end is given bytes: the frames that are whole now are answered, in order
abbrev pub peer_given : List ℕ → PlainPeer → PlainNode → PlainNode × PeerResult
peer_given piece peer node = frames_up (peer_frames piece peer) (node, untold_peer (peer_heard piece peer))

-- the producer's node and the link after n bytes of its consumer's
abbrev pub up_result : PlainLink → ℕ → PlainNode × PeerResult → PlainNode × LinkResult
up_result link n (node, told) = (node, (Some (with_up link n told), moved n told.events))

-- the producer's end is given the first n bytes that its consumer wrote
abbrev pub up_moved : PlainLink → ℕ → PlainNode → PlainNode × LinkResult
up_moved link n node = up_result link n (peer_given (take n link.up) (peer_of link) node)

-- `up L B` at the producer's node
abbrev pub up_at : ℕ → PlainLink → PlainNode → PlainNode × LinkResult
up_at wanted link node = up_moved link (moved_len wanted link.up) node

-- the link with what its producer wrote less n bytes, and with what its consumer made of them
abbrev pub with_down : PlainLink → ℕ → DialResult → PlainLink
with_down link n told =
    record link { consumer = told.dial.consumer; down_heard = told.dial.heard; down = drop n link.down; up = link.up ++ told.out }

-- what was moved, unless a rollback could not be written down
abbrev pub down_answer : ℕ → Option EndReason → Answer
down_answer n why = if is_broken why then answer.No cause.Disk else answer.Number n

-- a link whose consumer is over is no link any more
abbrev pub left_unless : Option EndReason → PlainLink → Option PlainLink
left_unless None link = Some link
left_unless (Some why) link = None

-- the consumer's node and the link after n bytes of its producer's, which made this of the vBuckets and their journals
abbrev pub down_result : PlainLink → ℕ → PlainNode → (States × Shelves) × DialResult → PlainNode × LinkResult
down_result link n node (kept, told) =
    let why = over_why told.dial.consumer.handshake in (with_kept node kept, (left_unless why (with_down link n told), record { events = told.events; answer = down_answer n why }))

-- the consumer's end is given the first n bytes that its producer wrote
abbrev pub down_moved : PlainLink → ℕ → PlainNode → PlainNode × LinkResult
down_moved link n node = down_result link n node (after_job (dial_bytes (take n link.down) (dial_of link)) node.vbs node.shelves)

-- `down L B` at the consumer's node
abbrev pub down_at : ℕ → PlainLink → PlainNode → PlainNode × LinkResult
down_at wanted link node = down_moved link (moved_len wanted link.down) node

-- the producer's node and the link after its frames were put, which made this of the vBuckets and their journals
abbrev pub pump_result : PlainLink → PlainNode → (States × Shelves) × PullResult → PlainNode × LinkResult
pump_result link node (kept, told) = (with_kept node kept, (Some (with_server link told.peer told.out), record { events = told.events; answer = told.answer }))

-- `pump L K` at the producer's node
abbrev pub pump_at : ℕ → PlainLink → PlainNode → PlainNode × LinkResult
pump_at frames link node = pump_result link node (after_job (peer_pulled frames (peer_of link)) node.vbs node.shelves)

-- the producer's node and the link after a stream's cursor was taken away, which made this of the vBuckets: whether it had one
abbrev pub drop_result : PlainLink → PlainNode → States × Bool → PlainNode × LinkResult
drop_result link node (states, had) = (with_states node states, (Some link, moved (if had then 1 else 0) []))

-- `drop L` at the producer's node: of the stream of the vBucket that the link feeds
abbrev pub drop_at : PlainLink → PlainNode → PlainNode × LinkResult
drop_at link node = drop_result link node (after (cursor_dropped link.consumer.dialed.vb link.server) node.vbs)
