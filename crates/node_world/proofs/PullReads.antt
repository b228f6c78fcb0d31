-- a pull reads journals alone: what it makes of a node is told with the journals as they are
use Rattle.std.proofs.Common.{◌≡◌, ℕ, Some, ap}
use Rattle.std.specs.List.{All}
use Rattle.vb_calls.specs.Jobs.{Job, Ended, bind_job, after_job, after_reads, AlwaysJob, IsRead}
use Rattle.vb_calls.specs.Programs.{AnyReply, AnyCall}
use Rattle.vb_calls.specs.Shelves.{Shelves}
use Rattle.vb_calls.specs.States.{States}
use Rattle.vb_calls.proofs.JobConduct.{always_bind_job}
use Rattle.vb_calls.proofs.JobReadings.{after_reads_bind, reads_leave}
use Rattle.dcp_producer.specs.declared.halt.Halt.{Halt}
use Rattle.dcp_producer.specs.Producers.{PlainProducer, Served, begun}
use Rattle.dcp_producer.specs.Pulling.{frames_put}
use Rattle.node_core.specs.Clients.{ClientPulled, IsProducers, PlainClient, client_pull, client_pulled}
use Rattle.node_core.specs.Peers.{PlainPeer, PullResult, peer_pulled, pull_result}
use Rattle.node_core.proofs.ProducerLines.{pull_reads}
use Rattle.node_world.specs.declared.told.Told.{Told}
use Rattle.node_world.specs.Links.{PlainLink, LinkResult, peer_of, pump_at, pump_result, with_server}
use Rattle.node_world.specs.Nodes.{PlainNode, pull_if, pulled, with_states}

-- a job that reads alone
abbrev pub ReadsAlone : {A : Type 0} → Job A → Type 0
ReadsAlone job = AlwaysJob AnyReply AnyCall IsRead (λ a. Unit {0}) job

-- what comes behind a pull asks nothing
behind : {A : Type 0} (frames : ℕ) (end : PlainProducer) (k : Served × Halt → A) → ReadsAlone (bind_job (frames_put frames (begun end)) (λ put. Ended (k put)))
behind frames end k =
    always_bind_job AnyReply AnyCall IsRead (λ (put : Served × Halt). All IsProducers put.0.events) (λ a. Unit {0}) (frames_put frames (begun end)) (λ put. Ended (k put)) (pull_reads frames end) (λ put told. tt)

pub peer_reads : (frames : ℕ) (peer : PlainPeer) → ReadsAlone (peer_pulled frames peer)
peer_reads frames peer = behind frames peer.producer (pull_result peer.heard)

pub client_reads : (frames : ℕ) (client : PlainClient) → ReadsAlone (client_pulled frames client)
client_reads frames client = behind frames client.producer (client_pull client.session)

-- a job that reads alone leaves journals, and what it makes of vBuckets is what `after_reads` tells
pub reads_alone : {A : Type 0} (job : Job A) → ReadsAlone job → (states : States) (shelves : Shelves) → after_job job states shelves ≡ (((after_reads job shelves states).0, shelves), (after_reads job shelves states).1)
reads_alone job reads states shelves = reads_leave AnyCall (λ a. Unit {0}) job states shelves reads

pub peer_job : (frames : ℕ) (peer : PlainPeer) (states : States) (shelves : Shelves)
    → after_job (peer_pulled frames peer) states shelves ≡ (((after_reads (peer_pulled frames peer) shelves states).0, shelves), (after_reads (peer_pulled frames peer) shelves states).1)
peer_job frames peer = reads_alone (peer_pulled frames peer) (peer_reads frames peer)

pub client_job : (frames : ℕ) (client : PlainClient) (states : States) (shelves : Shelves)
    → after_job (client_pulled frames client) states shelves ≡ (((after_reads (client_pulled frames client) shelves states).0, shelves), (after_reads (client_pulled frames client) shelves states).1)
client_job frames client = reads_alone (client_pulled frames client) (client_reads frames client)

-- a peer's frames, and a client's, by those that were put
pub peer_put : (frames : ℕ) (peer : PlainPeer) (shelves : Shelves) (states : States)
    → after_reads (peer_pulled frames peer) shelves states ≡ ((after_reads (frames_put frames (begun peer.producer)) shelves states).0, pull_result peer.heard (after_reads (frames_put frames (begun peer.producer)) shelves states).1)
peer_put frames peer shelves states = after_reads_bind (frames_put frames (begun peer.producer)) (λ put. Ended (pull_result peer.heard put)) shelves states

pub client_put : (frames : ℕ) (client : PlainClient) (shelves : Shelves) (states : States)
    → after_reads (client_pulled frames client) shelves states ≡ ((after_reads (frames_put frames (begun client.producer)) shelves states).0, client_pull client.session (after_reads (frames_put frames (begun client.producer)) shelves states).1)
client_put frames client shelves states = after_reads_bind (frames_put frames (begun client.producer)) (λ put. Ended (client_pull client.session put)) shelves states

-- the producer's node and the link after frames were put, which made this of the vBuckets
abbrev pub pump_read : PlainLink → PlainNode → States × PullResult → PlainNode × LinkResult
pump_read link node (states, told) = (with_states node states, (Some (with_server link told.peer told.out), record { events = told.events; answer = told.answer }))

-- the node after frames of its connection c, which made this of the vBuckets and of the connection
abbrev pub pull_read : ℕ → PlainNode → States × ClientPulled → PlainNode × Told
pull_read c node (states, told) = pulled c node ((states, node.shelves), told)

pub pump_is : (frames : ℕ) (link : PlainLink) (node : PlainNode) → pump_at frames link node ≡ pump_read link node (after_reads (peer_pulled frames (peer_of link)) node.shelves node.vbs)
pump_is frames link node = ap (λ (came : (States × Shelves) × PullResult). pump_result link node came) (peer_job frames (peer_of link) node.vbs node.shelves)

pub pull_is : (c frames : ℕ) (client : PlainClient) (node : PlainNode) → pull_if c frames node (Some client) ≡ pull_read c node (after_reads (client_pulled frames client) node.shelves node.vbs)
pull_is c frames client node = ap (λ (came : (States × Shelves) × ClientPulled). pulled c node came) (client_job frames client node.vbs node.shelves)
