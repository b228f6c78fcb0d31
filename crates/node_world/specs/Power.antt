-- nodes that stop, and nodes that start again
use Rattle.std.specs.Prelude.{ℕ, ◌==◌, ◌||◌, not, Bool, true, false, if◌then◌else◌, List, [], ◌∷◌, ◌++◌, length, Option, Some, None, is_some, option_map}
use Rattle.std.specs.List.{filter, flat_map}
use Rattle.vb_events.specs.declared.event.Answer.{Answer}
use Rattle.vb_events.specs.declared.event.Answer.TheVariants as answer
use Rattle.vb_events.specs.declared.event.Cause.{Cause}
use Rattle.vb_events.specs.declared.event.Cause.TheVariants as cause
use Rattle.vb_events.specs.declared.event.Event.{Event}
use Rattle.vb_events.specs.declared.event.Event.TheVariants as event
use Rattle.vb_events.specs.declared.event.EndReason.TheVariants as reason
use Rattle.vb_calls.specs.Jobs.{after_job}
use Rattle.vb_calls.specs.Shelves.{left_book}
use Rattle.vb_disk.specs.Arms.{burnt_by}
use Rattle.vb_disk.specs.declared.made.Outcome.{Outcome}
use Rattle.disk_journals.specs.Arms.{opens_all}
use Rattle.disk_journals.specs.Books.{Book, below, listed, opened_shelves}
use Rattle.node_core.specs.Flushing.{FlushResult}
use Rattle.node_core.specs.Loading.{are_short, is_there, loaded_states, start_job, starts_of}
use Rattle.node_world.specs.declared.arm.Arm.{Arm}
use Rattle.node_world.specs.declared.arm.Fired.{Fired}
use Rattle.node_world.specs.declared.arm.Fired.TheVariants as fired
use Rattle.node_world.specs.declared.told.Told.{Told}
use Rattle.node_world.specs.Arms.{PlainNode, empty_node, no_arm, fired_by, under_arm}
use Rattle.node_world.specs.Cuts.{unlinked}
use Rattle.node_world.specs.Links.{PlainLink, link_number, producer_node, consumer_node}
use Rattle.node_world.specs.Nodes.{done, first_cause, is_one_of, refusal, refused_or, with_kept}
use Rattle.node_world.specs.Worlds.{PlainWorld, Outcome as Came, arm_in, is_up, on_made, with_node_if}
use Rattle.vbucket.specs.Rows.{row_at}

-- how many numbers connections and links have
abbrev pub numbers : ℕ
numbers = 1000

-- those numbers, in their order
unfoldable pub all_numbers : List ℕ
all_numbers = below numbers

-- ---- a node that stops

-- a link has an end at the node n
abbrev pub touches : ℕ → PlainLink → Bool
touches n link = producer_node link == n || consumer_node link == n

abbrev pub is_touched : ℕ → Option PlainLink → Bool
is_touched n None = false
is_touched n (Some link) = touches n link

-- this is the number
abbrev pub is_this_number : ℕ → Option ℕ → Bool
is_this_number l None = false
is_this_number l (Some k) = l == k

-- the end of the link l, where it has an end at the node n, or is this one more
abbrev pub end_line : ℕ → Option ℕ → List PlainLink → ℕ → List Event
end_line n also links l = if is_this_number l also || is_touched n (row_at link_number l links) then event.Ended l reason.Cut ∷ [] else []

-- the ends of the links that have an end at the node n, by their numbers, and that of one more
abbrev pub end_lines : ℕ → Option ℕ → List PlainLink → List Event
end_lines n also links = flat_map (end_line n also links) all_numbers

-- the client connection c of a node is open, where the node is made
abbrev pub has_client : ℕ → Option PlainNode → Bool
has_client c None = false
has_client c (Some node) = is_some (node.clients c)

-- the end of its client connection c
abbrev pub closed_line : ℕ → Option PlainNode → ℕ → List Event
closed_line n node c = if has_client c node then event.Closed n c ∷ [] else []

-- the ends of its client connections, by their numbers
abbrev pub closed_lines : ℕ → Option PlainNode → List Event
closed_lines n node = flat_map (closed_line n node) all_numbers

-- what is told of a node that stops: its links end, and its client connections
abbrev pub down_lines : ℕ → Option ℕ → PlainWorld → List Event
down_lines n also w = end_lines n also w.links ++ closed_lines n (w.nodes n)

-- the records that a crash leaves on the disks of a node
abbrev pub books_left : Outcome → PlainNode → List Book
books_left out node = listed (λ v. option_map (left_book out) (node.shelves v))

-- a node that stopped: of it there are its disks, and nothing else
abbrev pub stopped_node : Outcome → PlainNode → PlainNode
stopped_node out node = record empty_node { off = Some (books_left out node) }

-- the world after these links ended
abbrev pub all_unlinked : List PlainLink → PlainWorld → PlainWorld
all_unlinked [] w = w
all_unlinked (link ∷ links) w = all_unlinked links (unlinked link w)

-- the world after all links ended that have an end at the node n
abbrev pub all_cut : ℕ → PlainWorld → PlainWorld
all_cut n w = all_unlinked (filter (touches n) w.links) w

-- the world in which the node n stopped, and the crash left this
abbrev pub dropped : ℕ → Outcome → PlainWorld → PlainWorld
dropped n out w = with_node_if n (stopped_node out) (all_cut n w)

-- `crash N OUT`: the causes to refuse it, in their order
abbrev pub crash_causes : PlainWorld → ℕ → List (Bool × Cause)
crash_causes w n = (not (is_some (w.nodes n)), cause.UnknownNode) ∷ (not (is_up (w.nodes n)), cause.NodeDown) ∷ []

-- `crash N OUT`
abbrev pub crash_step : PlainWorld → ℕ → Outcome → Came
crash_step w n out = refused_or (first_cause (crash_causes w n)) w (dropped n out w, done (down_lines n None w))

-- ---- an arm that fires inside a line

-- an arm of the node n that fired: a call that failed is told behind what the line told; a node that stopped is dropped, whatever the line's answer was
abbrev pub after_fire : ℕ → Outcome → Fired → Came → Came
after_fire n out fired.No came = came
after_fire n out fired.Failed (w, told) = (w, record told { events = told.events ++ event.CallFailed n ∷ [] })
after_fire n out fired.Stopped (w, told) = (dropped n out w, record { events = told.events ++ event.NodeStopped n ∷ down_lines n None w; answer = answer.No cause.Stopped })

-- what a line comes to, under the arm that the node n had before it
abbrev pub with_arm : ℕ → PlainWorld → Came → Came
with_arm n before (w, told) = after_fire n (arm_in (before.nodes n)).out (fired_by (arm_in (before.nodes n)).fuse (arm_in (w.nodes n)).fuse) (w, told)

-- a line's answer says that a rollback could not be written down
abbrev pub is_broken_answer : Answer → Bool
is_broken_answer (answer.No cause.Disk) = true
is_broken_answer other = false

-- the end of the link l, whose vBucket could not go back
abbrev pub disk_end : ℕ → List Event
disk_end l = event.Ended l reason.Disk ∷ []

-- a rollback of the link l that could not be written down: its journal was closed before; or the call failed, which is told before the link's end; or the node stopped there, and the link ended with the others
abbrev pub after_broken : ℕ → ℕ → Outcome → Fired → Came → Came
after_broken n l out fired.No (w, told) = (w, record { events = told.events ++ disk_end l; answer = answer.No cause.Closed })
after_broken n l out fired.Failed (w, told) = (w, record { events = told.events ++ event.CallFailed n ∷ disk_end l; answer = answer.No cause.Disk })
after_broken n l out fired.Stopped (w, told) = (dropped n out w, record { events = told.events ++ event.NodeStopped n ∷ down_lines n (Some l) w; answer = answer.No cause.Stopped })

-- what bytes for the consumer of the link l, at the node n, come to, under the arm that the node had before
abbrev pub with_broken : ℕ → ℕ → PlainWorld → Came → Came
with_broken n l before (w, told) =
    if is_broken_answer told.answer then after_broken n l (arm_in (before.nodes n)).out (fired_by (arm_in (before.nodes n)).fuse (arm_in (w.nodes n)).fuse) (w, told)
    else (w, told)

-- ---- a node that starts again

-- one of these ids was given before, or stands twice
abbrev pub any_used : List ℕ → List ℕ → Bool
any_used given [] = false
any_used given (uuid ∷ uuids) = is_one_of uuid given || is_one_of uuid uuids || any_used given uuids

-- `start N ..`: the causes to refuse it before its disks are touched, in their order
abbrev pub start_causes : PlainWorld → ℕ → List ℕ → List (Bool × Cause)
start_causes w n uuids =
    (not (is_some (w.nodes n)), cause.UnknownNode) ∷ (is_up (w.nodes n), cause.NodeUp) ∷ (is_one_of 0 uuids, cause.UuidZero) ∷ (any_used w.uuids uuids, cause.UuidUsed) ∷ []

-- what is told where an arm fired before a vBucket was loaded
abbrev pub opening_told : ℕ → Fired → Told
opening_told n fired.No = refusal cause.Disk
opening_told n fired.Failed = record { events = event.CallFailed n ∷ []; answer = answer.No cause.Disk }
opening_told n fired.Stopped = record { events = event.NodeStopped n ∷ []; answer = answer.No cause.Stopped }

-- an opening that is hit leaves the node down, and its disks as they were
abbrev pub not_opened : ℕ → PlainNode → PlainNode × Told
not_opened n node = (record node { arm = no_arm }, opening_told n (fired_by node.arm.fuse no_arm.fuse))

-- so many openings were made
abbrev pub burnt_arm : ℕ → Arm → Arm
burnt_arm count arm = record arm { fuse = burnt_by count arm.fuse }

-- a node of these journals: its vBuckets are those of which a record stands; one that was active is dead yet
abbrev pub loaded_node : ℕ → List Book → Arm → PlainNode
loaded_node n books arm = record empty_node { vbs = loaded_states n books; shelves = opened_shelves books; made = length (filter is_there books); arm = arm }

-- a vBucket that was active takes its new branch, which is written down under the node's arm
abbrev pub start_call : ℕ → ℕ → ℕ → PlainNode → PlainNode × FlushResult
start_call n v uuid node = let (kept, told) = after_job (start_job n v uuid) node.vbs node.shelves in (with_kept node kept, told)

abbrev pub start_one : ℕ → ℕ × ℕ → PlainNode → PlainNode × FlushResult
start_one n start node = under_arm start.0 (start_call n start.0 start.1) node

-- the answer of one more start, behind those before it: the first failure
abbrev pub first_no : Answer → Answer → Answer
first_no answer.Ok next = next
first_no before next = before

-- a node that starts: as it is so far, and what was told
abbrev pub Starting : Type 0
Starting = PlainNode × Told

-- a vBucket took its new branch, and the arm did this: where the node stopped, it is down again, and no other vBucket starts
abbrev pub started_by : ℕ → Arm → Fired → FlushResult → Told → PlainNode → (Starting → Starting) → Starting
started_by n arm fired.No one told node rest = rest (node, record { events = told.events ++ one.events; answer = first_no told.answer one.answer })
started_by n arm fired.Failed one told node rest = rest (node, record { events = told.events ++ one.events ++ event.CallFailed n ∷ []; answer = first_no told.answer one.answer })
started_by n arm fired.Stopped one told node rest = (stopped_node arm.out node, record { events = told.events ++ one.events ++ event.NodeStopped n ∷ []; answer = answer.No cause.Stopped })

-- the vBuckets that were active start one after the other, each with its id
abbrev pub starts_from : ℕ → List (ℕ × ℕ) → Starting → Starting
starts_from n [] so_far = so_far
starts_from n (start ∷ starts) (node, told) =
    let (node', one) = start_one n start node in
    started_by n node.arm (fired_by node.arm.fuse node'.arm.fuse) one told node' (starts_from n starts)

-- the disks of a node were opened: there are too few ids, or its vBuckets are loaded and start
abbrev pub opened_at : ℕ → List ℕ → List Book → PlainNode → PlainNode × Told
opened_at n uuids books node =
    if are_short books uuids then (record node { arm = burnt_arm (length books) node.arm }, refusal cause.IdsShort)
    else starts_from n (starts_of books uuids) (loaded_node n books (burnt_arm (length books) node.arm), done [])

-- the disks of a node are opened by rising numbers, each by one device call
abbrev pub start_books : ℕ → List ℕ → List Book → PlainNode → PlainNode × Told
start_books n uuids books node = if opens_all node.arm.fuse (length books) then opened_at n uuids books node else not_opened n node

-- where there are disks of it, it is down
abbrev pub start_if : ℕ → List ℕ → PlainNode → Option (List Book) → PlainNode × Told
start_if n uuids node None = (node, refusal cause.NodeUp)
start_if n uuids node (Some books) = start_books n uuids books node

-- a node that is down starts
abbrev pub start_at : ℕ → List ℕ → PlainNode → PlainNode × Told
start_at n uuids node = start_if n uuids node node.off

-- `start N ..`
abbrev pub start_step : PlainWorld → ℕ → List ℕ → Came
start_step w n uuids = refused_or (first_cause (start_causes w n uuids)) w (on_made w n (start_at n uuids))
