-- lines of clients' streams behind what was read, to be judged by hand
use Rattle.std.specs.Prelude.{ℕ, ◌^◌, ◌-◌, ◌==◌, Bool, true, false, if◌then◌else◌, List, [], ◌∷◌, Option, Some, None}
use Rattle.mcbp_dcp.specs.DcpFrames.{dcp_frame}
use Rattle.mcbp_dcp.specs.declared.message.DcpMsg.{DcpMsg}
use Rattle.mcbp_dcp.specs.declared.message.DcpMsg.TheVariants as msg
use Rattle.mcbp_frame.specs.Spelling.{spelling}
use Rattle.dcp_producer.specs.Frames.{act_message}
use Rattle.vb_types.specs.declared.change.Act.TheVariants as act
use Rattle.vb_types.specs.declared.change.Change.{Change}
use Rattle.vb_types.specs.declared.change.Level.TheVariants.{Majority}
use Rattle.vb_types.specs.declared.role.Role.{Role}
use Rattle.vb_types.specs.declared.stream.StreamAsk.{StreamAsk}
use Rattle.vb_events.specs.declared.event.Event.{Event}
use Rattle.vb_events.specs.declared.event.Event.TheVariants as event
use Rattle.vb_events.specs.declared.event.StreamName.TheVariants as name
use Rattle.branch_model.specs.Trees.{Branch}
use Rattle.transcript_law.specs.Chronicles.{Chronicle, with_at}
use Rattle.transcript_law.specs.ClientStreams.{Begun, ClientKnown, ClientStream, ClientsKnown, ItemLine, Setup, blank_client, view}
use Rattle.transcript_law.specs.Followers.{next_change}
use Rattle.transcript_law.specs.Lawfulness.{LawfulFrom}
use Rattle.transcript_law.specs.Rollbacks.{after_active}
use Rattle.transcript_law.specs.StreamLaws.{item_of_change, line_act}
use Rattle.transcript_law.specs.StreamsTold.{blank_asking}
use Rattle.transcript_law.specs.Transcripts.{first_doc, one_change}

-- ---- what was read

-- the branch 5 alone, with these changes
abbrev pub tree_of : List Change → List Branch
tree_of changes = record { id = 5; parent = None; fork = 0; own = changes } ∷ []

-- each vBucket holds those, and the vBucket 0 of the node 0 is active on the branch; each connection is open
abbrev pub holding : List Change → List Change → Chronicle
holding held changes = record after_active { tree = tree_of changes; held = λ n v. held; conn_at = λ n c. true }

-- this is known of the connection 1 of the node 0, and nothing of any other
abbrev pub knows : ClientKnown → ClientsKnown
knows known = with_at (λ n c. blank_client) 0 1 known

-- a connection that is open for a producer, asks for durable writes and gave its name, which was answered, and has these streams
abbrev pub open_setup : Setup
open_setup = record { opened = true; sync = true; named = true }

abbrev pub with_streams : (ℕ → Option ClientStream) → ClientKnown
with_streams streams = record blank_client { setup = open_setup; streams = streams; asking = record blank_asking { setup = open_setup } }

-- one of the vBucket 0, or one of the vBucket 0 and one of the vBucket 1
abbrev pub one : ClientStream → ℕ → Option ClientStream
one g v = if v == 0 then Some g else None

abbrev pub both : ClientStream → ClientStream → ℕ → Option ClientStream
both g h v = if v == 0 then Some g else if v == 1 then Some h else None

-- where vBuckets hold those of these changes, and the connection has these streams, the lines are lawful
abbrev pub LawfulHeld : List Change → List Change → (ℕ → Option ClientStream) → List Event → Type 0
LawfulHeld held changes streams lines = LawfulFrom (record (holding held changes) { clients_at = knows (with_streams streams) }) lines

-- where they hold all of them
abbrev pub LawfulPut : List Change → (ℕ → Option ClientStream) → List Event → Type 0
LawfulPut changes streams lines = LawfulHeld changes changes streams lines

-- ---- streams

-- a request for all changes above `at` up to `end`, with the snapshot (ss, se] of the branch 5
abbrev pub asks_for : ℕ → ℕ → ℕ → ℕ → StreamAsk
asks_for ss at se end = record { flags = 0; start = at; end = end; uuid = 5; ss = ss; se = se }

-- for all of them, with no end, and up to `end`
abbrev pub all_changes : StreamAsk
all_changes = asks_for 0 0 0 (2 ^ 64 - 1)

abbrev pub up_to : ℕ → StreamAsk
up_to end = asks_for 0 0 0 end

-- a stream of the branch 5 that has just been granted, which is shown durable writes or not
abbrev pub fresh : Bool → StreamAsk → ClientStream
fresh sync ask = record { ask = ask; opaque = 9; sync = sync; branch = 5; place = ask.start; last = None; over = false; turned = false; left = [] }

-- a snapshot of these changes, of which these were put
abbrev pub snapshot : List Change → ℕ → ℕ → List ItemLine → Begun
snapshot shown from end items = record { history = shown; from = from; end = end; disk = false; items = items }

-- the stream in that snapshot
abbrev pub inside : Bool → StreamAsk → List Change → ℕ → ℕ → List ItemLine → ClientStream
inside sync ask changes from end items = record (fresh sync ask) { place = end; last = Some (snapshot (view sync changes) from end items) }

-- ---- lines, each with its frame

-- a frame for the client, of this vBucket
abbrev pub frame_of : ℕ → DcpMsg → Event
frame_of v m = event.Reply 0 1 (spelling (dcp_frame m 9 v))

-- a marker
abbrev pub marked : ℕ → ℕ → ℕ → List Event
marked v start end = event.Marked (name.Client 0 1) start end 1 ∷ frame_of v (msg.SnapshotMarker start end 1) ∷ []

-- the item of a change, and with the frame of another one
abbrev pub sent_with : ℕ → Change → Change → List Event
sent_with v c other = event.Item (name.Client 0 1) c.seq (line_act c.act) c.key ∷ frame_of v (act_message other other.act) ∷ []

abbrev pub sent : ℕ → Change → List Event
sent v c = sent_with v c c

-- an end
abbrev pub ended : ℕ → ℕ → List Event
ended v reason = event.Finished (name.Client 0 1) reason ∷ frame_of v (msg.StreamEnd reason) ∷ []

-- the vBucket 0 gets a role, and another one does
abbrev pub turned : Role → Event
turned said = event.Role 0 0 said

abbrev pub other_turned : Role → Event
other_turned said = event.Role 0 1 said

-- the vBucket 0 of another node does
abbrev pub turned_elsewhere : Role → Event
turned_elsewhere said = event.Role 1 0 said

-- ---- changes

-- the key 7 is set, then the key 9, and then the key 11
abbrev pub third_change : Change
third_change = record { seq = 3; key = 11 ∷ []; act = act.Set (first_doc 3 (4 ∷ [])) }

abbrev pub two : List Change
two = one_change ∷ next_change ∷ []

abbrev pub three : List Change
three = one_change ∷ next_change ∷ third_change ∷ []

-- the first change with another value
abbrev pub other_value : Change
other_value = record { seq = 1; key = 7 ∷ []; act = act.Set (first_doc 1 (9 ∷ [])) }

-- a set of the key 9 is prepared behind the first change, and committed; and that commit as a document
abbrev pub prepared : Change
prepared = record { seq = 2; key = 9 ∷ []; act = act.Prepare Majority (first_doc 2 (6 ∷ [])) false }

abbrev pub committed : Change
committed = record { seq = 3; key = 9 ∷ []; act = act.Commit 2 (first_doc 2 (6 ∷ [])) false }

abbrev pub as_document : Change
as_document = record { seq = 3; key = 9 ∷ []; act = act.Set (first_doc 2 (6 ∷ [])) }

abbrev pub durable : List Change
durable = one_change ∷ prepared ∷ committed ∷ []

-- so far it is not committed
abbrev pub pending : List Change
pending = one_change ∷ prepared ∷ []

-- a set of the key 11 is prepared behind both
abbrev pub late_prepared : Change
late_prepared = record { seq = 3; key = 11 ∷ []; act = act.Prepare Majority (first_doc 3 (4 ∷ [])) false }

abbrev pub waiting : List Change
waiting = one_change ∷ next_change ∷ late_prepared ∷ []

-- the items of changes that were put
abbrev pub first_item : ItemLine
first_item = item_of_change one_change

abbrev pub next_item : ItemLine
next_item = item_of_change next_change

abbrev pub prepared_item : ItemLine
prepared_item = item_of_change prepared

abbrev pub third_item : ItemLine
third_item = item_of_change third_change

-- as a vBucket holds them that was sent the commit as a document
abbrev pub held_so : List Change
held_so = one_change ∷ prepared ∷ as_document ∷ []

-- a stream that was put both of the first two changes in one snapshot, and one that asks for this
abbrev pub put_three : StreamAsk → ClientStream
put_three ask = inside true ask three 0 2 (first_item ∷ next_item ∷ [])

abbrev pub put_two : ClientStream
put_two = put_three all_changes

-- one whose vBucket got a role, and held this before
abbrev pub left_with : List Change → ClientStream → ClientStream
left_with held g = record g { turned = true; left = held }

-- one whose end was put
abbrev pub finished : ClientStream → ClientStream
finished g = record g { over = true }

-- ---- markers that are told otherwise

-- the marker of both changes, from the journal
abbrev pub disk_marked : List Event
disk_marked = event.Marked (name.Client 0 1) 0 2 2 ∷ frame_of 0 (msg.SnapshotMarker 0 2 2) ∷ []

-- without its frame
abbrev pub unframed : List Event
unframed = event.Marked (name.Client 0 1) 0 2 1 ∷ []

-- the connection closed
abbrev pub closed : Event
closed = event.Closed 0 1

-- with another line before its frame
abbrev pub late_marked : List Event
late_marked = event.Marked (name.Client 0 1) 0 2 1 ∷ event.Closed 0 2 ∷ frame_of 0 (msg.SnapshotMarker 0 2 1) ∷ []

-- with a frame for another client, or with another opaque
abbrev pub for_another : List Event
for_another = event.Marked (name.Client 0 1) 0 2 1 ∷ event.Reply 0 2 (spelling (dcp_frame (msg.SnapshotMarker 0 2 1) 9 0)) ∷ []

abbrev pub other_opaque : List Event
other_opaque = event.Marked (name.Client 0 1) 0 2 1 ∷ event.Reply 0 1 (spelling (dcp_frame (msg.SnapshotMarker 0 2 1) 8 0)) ∷ []

-- a marker and an end with the frame of this message
abbrev pub marked_with : ℕ → ℕ → DcpMsg → List Event
marked_with start end m = event.Marked (name.Client 0 1) start end 1 ∷ frame_of 0 m ∷ []

abbrev pub ended_with : ℕ → DcpMsg → List Event
ended_with reason m = event.Finished (name.Client 0 1) reason ∷ frame_of 0 m ∷ []

-- the frame of a marker alone
abbrev pub untold : List Event
untold = frame_of 0 (msg.SnapshotMarker 0 2 1) ∷ []
