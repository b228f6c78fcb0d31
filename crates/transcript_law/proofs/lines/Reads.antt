-- a pump and a pull read journals alone: each leaves them as they are
use Rattle.std.specs.Prelude.{◌≡◌}
use Rattle.transcript_law.proofs.Words.{ℕ, refl, ap, Option, Some, None, PlainLink, PlainNode, States, Told, begun, frames_put, peer_of, pull_result, PullResult, peer_pulled, pump_at, pump_result, with_states, with_client}
use Rattle.dcp_producer.proofs.Desks.{PutAt, pulled_at}
use Rattle.node_core.specs.Clients.{ClientPulled, PlainClient, client_pull, client_pulled}
use Rattle.node_world.specs.Links.{LinkResult, with_server}
use Rattle.node_world.specs.Nodes.{pull_at, pull_if, pulled, refusal}
use Rattle.vb_calls.proofs.JobConduct.{always_bind_job}
use Rattle.vb_calls.proofs.JobReadings.{reads_always, reads_leave}
use Rattle.vb_calls.specs.Shelves.{Shelves}
use Rattle.node_core.specs.Peers.{PlainPeer}
use Rattle.dcp_producer.specs.declared.desk.Desk.{Desk}
use Rattle.vb_calls.specs.Jobs.{AlwaysJob, Ended, IsRead, after_reads}
use Rattle.vb_calls.specs.Programs.{AnyCall, AnyReply}
use Rattle.vb_events.specs.declared.event.Cause.TheVariants as cause

-- what a pump made of the vBuckets and of its link, where the journals stay
abbrev pub pump_read : PlainLink → PlainNode → States × PullResult → PlainNode × LinkResult
pump_read link node (states, told) = (with_states node states, (Some (with_server link told.peer told.out), record { events = told.events; answer = told.answer }))

abbrev pub pump_reads : ℕ → PlainLink → PlainNode → PlainNode × LinkResult
pump_reads frames link node = pump_read link node (after_reads (peer_pulled frames (peer_of link)) node.shelves node.vbs)

-- its producer stays at its desk
pub read_desk : (frames : ℕ) (peer : PlainPeer) (shelves : Shelves) (states : States) → (after_reads (peer_pulled frames peer) shelves states).1.peer.producer.desk ≡ peer.producer.desk
read_desk frames peer shelves states =
    let desk : Desk = peer.producer.desk in
    reads_always AnyCall IsRead (λ (t : PullResult). t.peer.producer.desk ≡ desk) (peer_pulled frames peer) shelves states
    (always_bind_job AnyReply AnyCall IsRead (PutAt desk) (λ (t : PullResult). t.peer.producer.desk ≡ desk) (frames_put frames (begun peer.producer)) (λ put. Ended (pull_result peer.heard put))
    (pulled_at desk frames (begun peer.producer) refl) (λ put at. at))

-- so it is with a pump
pub pumps_read : (frames : ℕ) → pump_at frames ≡ pump_reads frames
pumps_read frames = λ i link node. at link node i
  where
    job_reads : (link : PlainLink) → AlwaysJob AnyReply AnyCall IsRead (λ t. Unit {0}) (peer_pulled frames (peer_of link))
    job_reads link = always_bind_job AnyReply AnyCall IsRead (PutAt link.server.desk) (λ t. Unit {0}) (frames_put frames (begun link.server)) (λ put. Ended (pull_result link.up_heard put))
        (pulled_at link.server.desk frames (begun link.server) refl) (λ put at. tt)

    at : (link : PlainLink) (node : PlainNode) → pump_at frames link node ≡ pump_reads frames link node
    at link node = ap (pump_result link node) (reads_leave AnyCall (λ t. Unit {0}) (peer_pulled frames (peer_of link)) node.vbs node.shelves (job_reads link))

-- and with a pull of a client's connection
abbrev pub pull_read : ℕ → PlainNode → States × ClientPulled → PlainNode × Told
pull_read c node (states, told) = (with_client (with_states node states) c (Some told.client), record { events = told.events; answer = told.answer })

abbrev pub pull_reads_if : ℕ → ℕ → PlainNode → Option PlainClient → PlainNode × Told
pull_reads_if c frames node None = (node, refusal cause.LinkClosed)
pull_reads_if c frames node (Some client) = pull_read c node (after_reads (client_pulled frames client) node.shelves node.vbs)

abbrev pub pull_reads : ℕ → ℕ → PlainNode → PlainNode × Told
pull_reads c frames node = pull_reads_if c frames node (node.clients c)

pub pull_is : (c frames : ℕ) (node : PlainNode) (o : Option PlainClient) → pull_if c frames node o ≡ pull_reads_if c frames node o
pull_is c frames node None = refl
pull_is c frames node (Some client) =
    ap (pulled c node) (reads_leave AnyCall (λ t. Unit {0}) (client_pulled frames client) node.vbs node.shelves
    (always_bind_job AnyReply AnyCall IsRead (PutAt client.producer.desk) (λ t. Unit {0}) (frames_put frames (begun client.producer)) (λ put. Ended (client_pull client.session put))
    (pulled_at client.producer.desk frames (begun client.producer) refl) (λ put at. tt)))

pub pulls_read : (c frames : ℕ) → pull_at c frames ≡ pull_reads c frames
pulls_read c frames = λ i node. pull_is c frames node (node.clients c) i
