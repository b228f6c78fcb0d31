-- one node: its vBuckets and connections, and what a line of a script makes of them
use Rattle.std.specs.Prelude.{ℕ, zero, suc, ◌+◌, ◌==◌, nat_le, not, Bool, false, true, if◌then◌else◌, List, [], ◌∷◌, ◌++◌, Option, Some, None, is_some}
use Rattle.std.specs.List.{list_any}
use Rattle.std.specs.Option.{option_map}
use Rattle.client_session.specs.Serving.{awaits}
use Rattle.dcp_producer.specs.Ending.{end_closed}
use Rattle.durability.specs.Chains.{Members, is_chain}
use Rattle.vb_events.specs.declared.event.Event.{Event}
use Rattle.vb_events.specs.declared.event.Cause.{Cause}
use Rattle.vb_events.specs.declared.event.Cause.TheVariants as cause
use Rattle.vb_events.specs.declared.event.Answer.TheVariants as answer
use Rattle.vb_types.specs.declared.journal.FlushPart.{FlushPart}
use Rattle.vb_types.specs.declared.journal.FlushPart.TheVariants as part
use Rattle.vb_types.specs.declared.journal.Record.TheVariants.{State}
use Rattle.vb_types.specs.declared.role.Role.{Role}
use Rattle.vb_types.specs.declared.role.Role.TheVariants as role
use Rattle.vb_calls.specs.Programs.{after}
use Rattle.vb_calls.specs.Jobs.{Job, after_job}
use Rattle.vb_calls.specs.Flushes.{wrote_of}
use Rattle.vb_calls.specs.Shelves.{Append, Fate, Shelf, Shelves, blank_shelf, shelves_step, with_shelf_at}
use Rattle.vb_calls.specs.State.{Plain, first_log, is_active, new_vb}
use Rattle.vb_calls.specs.declared.calls.Resolved.{Resolved}
use Rattle.vb_calls.specs.States.{States, with_vb_at}
use Rattle.node_core.specs.declared.node.TheConstants.{MAX_VBS}
use Rattle.node_core.specs.Admin.{noted_answer}
use Rattle.node_core.specs.Calls.{branch_lines, left_open}
use Rattle.node_core.specs.Clients.{PlainClient, Handling, ClientPulled, new_client, client_fed, client_posted, client_pulled, client_ended}
use Rattle.node_core.specs.Flushing.{FlushResult, flush_at, chain_changed, ticked}
pub use Rattle.node_world.specs.Arms.{PlainNode, empty_node}
use Rattle.node_world.specs.Arms.{under_arm}
use Rattle.node_world.specs.declared.arm.Arm.{Arm}
use Rattle.node_world.specs.declared.told.Told.{Told}
use Rattle.node_world.specs.declared.script_node.TheConstants.{MAX_CLIENTS}

-- the line was carried out, and these things happened
abbrev pub done : List Event → Told
done events = record { events = events; answer = answer.Ok }

-- the line was refused for this cause, and nothing happened
abbrev pub refusal : Cause → Told
refusal cause = record { events = []; answer = answer.No cause }

-- the first cause of a table whose test holds
abbrev pub first_cause : List (Bool × Cause) → Option Cause
first_cause [] = None
first_cause (row ∷ rows) = if row.0 then Some row.1 else first_cause rows

-- a line that is refused changes nothing
abbrev pub refused_or : {A : Type 0} → Option Cause → A → A × Told → A × Told
refused_or None before outcome = outcome
refused_or (Some cause) before outcome = (before, refusal cause)

-- whether a number is in a list
abbrev pub is_one_of : ℕ → List ℕ → Bool
is_one_of n ns = list_any (λ m. m == n) ns

-- why no node makes one more vBucket
abbrev pub limit_causes : PlainNode → List (Bool × Cause)
limit_causes node = (nat_le MAX_VBS node.made, cause.Limit) ∷ []

-- the causes to refuse the id of a new branch, in their order
abbrev pub uuid_causes : List ℕ → ℕ → List (Bool × Cause)
uuid_causes uuids uuid = (uuid == 0, cause.UuidZero) ∷ (is_one_of uuid uuids, cause.UuidUsed) ∷ []

-- `vb N V active U`: the causes to refuse it, in their order
abbrev pub vb_causes : List ℕ → PlainNode → ℕ → ℕ → List (Bool × Cause)
vb_causes uuids node v uuid = (is_some (node.vbs v), cause.VbExists) ∷ limit_causes node ++ uuid_causes uuids uuid

-- the journal on the disk of a vBucket, where there is one, or a blank one on a new disk
abbrev pub shelf_or_blank : Option Shelf → Shelf
shelf_or_blank None = blank_shelf
shelf_or_blank (Some shelf) = shelf

-- the node with a disk for the vBucket v
abbrev pub with_disk : PlainNode → ℕ → PlainNode
with_disk node v = record node { shelves = with_shelf_at node.shelves v (shelf_or_blank (node.shelves v)) }

-- the node n with one more vBucket, which has nothing yet, and with these journals; an active one is on a branch of its own
abbrev pub with_vb : PlainNode → ℕ → ℕ → Role → ℕ → Shelves → PlainNode
with_vb node n v role uuid shelves = record node { vbs = with_vb_at node.vbs v (new_vb n role uuid); shelves = shelves; made = node.made + 1 }

-- what is told of a vBucket that was made, whose first record came to this
abbrev pub vb_told : ℕ → ℕ → Role → ℕ → Fate → Told
vb_told n v role uuid fate = record { events = branch_lines n v role uuid; answer = noted_answer (wrote_of fate) answer.Ok }

-- the vBucket v is made, and its role is written down first
abbrev pub vb_noted : ℕ → ℕ → Role → ℕ → PlainNode → PlainNode × Told
vb_noted n v role uuid node =
    let (shelves, fate) = shelves_step node.shelves v (Append (State role (first_log role uuid))) in
    (with_vb node n v role uuid shelves, vb_told n v role uuid fate)

-- so it is on its disk, under the node's arm
abbrev pub vb_made : ℕ → ℕ → Role → ℕ → PlainNode → PlainNode × Told
vb_made n v role uuid node = under_arm v (vb_noted n v role uuid) (with_disk node v)

-- `vb N V active U` at the node N; `uuids` are the branches that were made before
abbrev pub vb_at : List ℕ → ℕ → ℕ → ℕ → PlainNode → PlainNode × Told
vb_at uuids n v uuid node = refused_or (first_cause (vb_causes uuids node v uuid)) node (vb_made n v role.Active uuid node)

-- `vb N V replica`: the causes to refuse it, in their order
abbrev pub replica_causes : PlainNode → ℕ → List (Bool × Cause)
replica_causes node v = (is_some (node.vbs v), cause.VbExists) ∷ limit_causes node

-- `vb N V replica` at the node N: a vBucket without a branch, which may follow another one
abbrev pub replica_at : ℕ → ℕ → PlainNode → PlainNode × Told
replica_at n v node = refused_or (first_cause (replica_causes node v)) node (vb_made n v role.Replica 0 node)

-- the connections with this at the number c
abbrev pub with_conn : (ℕ → Option PlainClient) → ℕ → Option PlainClient → ℕ → Option PlainClient
with_conn clients c client = λ d. if d == c then client else clients d

-- the node with this at its client connection c
abbrev pub with_client : PlainNode → ℕ → Option PlainClient → PlainNode
with_client node c client = record node { clients = with_conn node.clients c client }

-- `client N C` at the node N: a connection is opened, unless there is an open one of that number. Its waits and its streams are numbered by `base`
abbrev pub client_at : ℕ → ℕ → ℕ → PlainNode → PlainNode × Told
client_at n base c node =
    if is_some (node.clients c) then (node, refusal cause.LinkOpen)
    else (with_client node c (Some (new_client (record { node = n; client = c; base = base }))), done [])

-- the node with these vBuckets
abbrev pub with_states : PlainNode → States → PlainNode
with_states node states = record node { vbs = states }

-- the node with these vBuckets and journals
abbrev pub with_kept : PlainNode → States × Shelves → PlainNode
with_kept node (states, shelves) = record node { vbs = states; shelves = shelves }

-- the node after bytes of its connection c, which made this of the vBuckets and of the connection
abbrev pub fed : ℕ → PlainNode → States × Handling → PlainNode × Told
fed c node (states, h) = (with_client (with_states node states) c (left_open h.client), done h.events)

-- bytes for a connection, where there is one
abbrev pub bytes_if : ℕ → List ℕ → PlainNode → Option PlainClient → PlainNode × Told
bytes_if c bytes node None = (node, refusal cause.LinkClosed)
bytes_if c bytes node (Some client) = fed c node (after (client_fed node.clock bytes client) node.vbs)

-- `bytes N C HEX` at the node N: the connection, which must be open, is given the bytes
abbrev pub bytes_at : ℕ → List ℕ → PlainNode → PlainNode × Told
bytes_at c bytes node = bytes_if c bytes node (node.clients c)

-- the node after a connection ended, by what it was: its streams are closed at their vBuckets
abbrev pub hung_if : ℕ → PlainNode → Option PlainClient → PlainNode × Told
hung_if c node None = (node, refusal cause.LinkClosed)
hung_if c node (Some client) = (with_client (with_states node (after (end_closed client.producer) node.vbs).0) c None, done [])

-- `hang N C` at the node N: the client closes the connection, which must be open
abbrev pub hang_at : ℕ → PlainNode → PlainNode × Told
hang_at c node = hung_if c node (node.clients c)

-- the node after frames of its connection c, which made this of the vBuckets and of the connection
abbrev pub pulled : ℕ → PlainNode → (States × Shelves) × ClientPulled → PlainNode × Told
pulled c node (kept, told) = (with_client (with_kept node kept) c (Some told.client), record { events = told.events; answer = told.answer })

-- frames of a connection, where there is one
abbrev pub pull_if : ℕ → ℕ → PlainNode → Option PlainClient → PlainNode × Told
pull_if c frames node None = (node, refusal cause.LinkClosed)
pull_if c frames node (Some client) = pulled c node (after_job (client_pulled frames client) node.vbs node.shelves)

-- `pull N C K` at the node N: the connection, which must be open, puts at most so many frames of its streams
abbrev pub pull_at : ℕ → ℕ → PlainNode → PlainNode × Told
pull_at c frames node = pull_if c frames node (node.clients c)

-- the node, where a change of role at its vBucket v ended the streams of these numbers
abbrev pub with_clients_ended : ℕ → List ℕ → PlainNode → PlainNode
with_clients_ended v ids node = record node { clients = λ c. option_map (client_ended v ids) (node.clients c) }

-- `clock N T` at the node N: its clock shows so many nanoseconds
abbrev pub clock_at : ℕ → PlainNode → PlainNode × Told
clock_at nanos node = (record node { clock = nanos }, done [])

-- the outcome of the durable write of this waiter is awaited at a connection, if there is one
abbrev pub awaits_in : ℕ → Option PlainClient → Bool
awaits_in waiter None = false
awaits_in waiter (Some client) = awaits waiter client.session.awaited

-- the number of a connection, where it awaits the outcome
abbrev pub awaiting_at : (ℕ → Option PlainClient) → ℕ → ℕ → Option ℕ
awaiting_at clients waiter c = if awaits_in waiter (clients c) then Some c else None

-- the first of two that are there
abbrev pub first_of : Option ℕ → Option ℕ → Option ℕ
first_of None later = later
first_of (Some c) later = Some c

-- the first connection below a number that awaits the outcome of the durable write of this waiter
unfoldable pub awaiting : (ℕ → Option PlainClient) → ℕ → ℕ → Option ℕ
awaiting clients waiter zero = None
awaiting clients waiter (suc c) = first_of (awaiting clients waiter c) (awaiting_at clients waiter c)

-- the node after its connection c was told an outcome, which made this of the vBuckets and of the connection
abbrev pub outcome_posted : ℕ → PlainNode → States × Handling → PlainNode × List Event
outcome_posted c node (states, h) = (with_client (with_states node states) c (left_open h.client), h.events)

-- an outcome for a connection, where there is one
abbrev pub posted_if : ℕ → Resolved → PlainNode → Option PlainClient → PlainNode × List Event
posted_if c r node None = (node, [])
posted_if c r node (Some client) = outcome_posted c node (after (client_posted node.clock r client) node.vbs)

-- an outcome for the connection of a number, if there is one that awaits it
abbrev pub posted_to : Resolved → PlainNode → Option ℕ → PlainNode × List Event
posted_to r node None = (node, [])
posted_to r node (Some c) = posted_if c r node (node.clients c)

-- what became of a durable write is told to the connection that awaits it, which goes on with the frames behind it. An outcome that nobody awaits any more is told to nobody
abbrev pub posted : Resolved → PlainNode → PlainNode × List Event
posted r node = posted_to r node (awaiting node.clients r.waiter MAX_CLIENTS)

-- outcomes, one after the other: each connection goes on with the frames behind its write before the next outcome is told
abbrev pub all_posted : List Resolved → PlainNode → PlainNode × List Event
all_posted [] node = (node, [])
all_posted (r ∷ rs) node =
    let (node', lines) = posted r node in
    let (node'', more) = all_posted rs node' in
    (node'', lines ++ more)

-- what a call told, and behind it what came of the outcomes
abbrev pub with_posts : FlushResult → PlainNode → PlainNode × Told
with_posts told node = let (node', lines) = all_posted told.resolved node in (node', record { events = told.events ++ lines; answer = told.answer })

-- the node after a step of writing down, and what is told of it
abbrev pub written : PlainNode → (States × Shelves) × FlushResult → PlainNode × Told
written node (kept, told) = with_posts told (with_kept node kept)

-- a step of writing the vBucket v down, where the node has one
abbrev pub flush_here : ℕ → ℕ → FlushPart → PlainNode → Job FlushResult
flush_here n v part node = flush_at n v part (is_some (node.vbs v))

-- `take N V`, `save N V` and `done N V` at the node N: a step of writing a vBucket down
abbrev pub flush_line : ℕ → ℕ → FlushPart → PlainNode → PlainNode × Told
flush_line n v part node = written node (after_job (flush_here n v part node) node.vbs node.shelves)

-- `save N V`: the batch that was taken is appended, under the node's arm
abbrev pub save_line : ℕ → ℕ → PlainNode → PlainNode × Told
save_line n v node = under_arm v (flush_line n v part.Save) node

-- whether a vBucket is there and active
abbrev pub is_active_one : Option Plain → Bool
is_active_one None = false
is_active_one (Some vb) = is_active vb.role

-- `chain N V M ..`: the causes to refuse it, in their order; a member is N or stands twice, or there are more than three
abbrev pub chain_causes : ℕ → ℕ → Members → PlainNode → List (Bool × Cause)
chain_causes n v others node = (not (is_some (node.vbs v)), cause.UnknownVb) ∷ (not (is_active_one (node.vbs v)), cause.WrongRole) ∷ (not (is_chain n others), cause.ChainBad) ∷ []

-- the same where these can't be a chain
abbrev pub bad_chain_causes : ℕ → PlainNode → List (Bool × Cause)
bad_chain_causes v node = (not (is_some (node.vbs v)), cause.UnknownVb) ∷ (not (is_active_one (node.vbs v)), cause.WrongRole) ∷ (true, cause.ChainBad) ∷ []

-- the first of them, by whether there is such a vBucket and whether it is active
abbrev pub bad_chain_cause : Option Bool → Cause
bad_chain_cause None = cause.UnknownVb
bad_chain_cause (Some false) = cause.WrongRole
bad_chain_cause (Some true) = cause.ChainBad

-- the node after a call that let a vBucket resolve durable writes, and what is told of it
abbrev pub settled : PlainNode → States × FlushResult → PlainNode × Told
settled node (states, told) = with_posts told (with_states node states)

-- the chain of the vBucket v is the node n and these
abbrev pub chain_made : ℕ → ℕ → Members → PlainNode → PlainNode × Told
chain_made n v others node = settled node (after (chain_changed n v (record { active = n; others = others })) node.vbs)

-- `chain N V M ..` at the node N
abbrev pub chain_line : ℕ → ℕ → Members → PlainNode → PlainNode × Told
chain_line n v others node = refused_or (first_cause (chain_causes n v others node)) node (chain_made n v others node)

-- `tick N V` at the node N: the prepares whose time is up by its clock are given up
abbrev pub tick_line : ℕ → ℕ → PlainNode → PlainNode × Told
tick_line n v node = settled node (after (ticked n v node.clock) node.vbs)

-- a line of a node that is running
abbrev pub if_up : (PlainNode → PlainNode × Told) → PlainNode → PlainNode × Told
if_up f node = if is_some node.off then (node, refusal cause.NodeDown) else f node

-- `stop N K OUT` and `fail N K`: the node has this arm, whether it is running or not
abbrev pub arm_at : Arm → PlainNode → PlainNode × Told
arm_at arm node = (record node { arm = arm }, done [])
