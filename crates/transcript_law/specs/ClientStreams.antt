-- what the lines of a transcript tell of clients' streams. A line tells of a stream by its client alone; the vBucket stands in the frame of the `reply` line directly behind it
use Rattle.std.specs.Prelude.{ℕ, ◌+◌, ◌-◌, ◌^◌, ◌==◌, ◌&&◌, Bool, true, false, if◌then◌else◌, nat_lt, List, [], ◌++◌, Option, Some, None}
use Rattle.std.specs.Option.{option_map}
use Rattle.mcbp_frame.specs.Frames.{big_16_at}
use Rattle.mcbp_frame.specs.declared.frame.Frame.{Frame}
use Rattle.vb_events.specs.declared.event.Event.{Event}
use Rattle.vb_events.specs.declared.event.Event.TheVariants as event
use Rattle.vb_events.specs.declared.event.StreamName.TheVariants as name
use Rattle.vb_types.specs.declared.change.Change.{Change}
use Rattle.vb_types.specs.declared.role.LogEntry.{LogEntry}
use Rattle.vb_types.specs.declared.stream.AskAnswer.{AskAnswer}
use Rattle.vb_types.specs.declared.stream.AskAnswer.TheVariants as ask_answer
use Rattle.vb_types.specs.declared.stream.StreamAsk.{StreamAsk}
use Rattle.branch_model.specs.Logs.{front, uuid_of}
use Rattle.branch_model.specs.Snapshots.{plain_view}
use Rattle.branch_model.specs.Trees.{Branch, hist}
use Rattle.transcript_law.specs.ClientFrames.{Request, bytes_behind, is_closed_by, is_sync, request_in, setup_after}
use Rattle.transcript_law.specs.Questions.{flow_put, past_answer}
use Rattle.transcript_law.specs.StreamsTold.{is_from_disk, more_items, with_at, with_id}
pub use Rattle.transcript_law.specs.StreamsTold.{Begun, ClientKnown, ClientStream, ClientsKnown, ItemLine, Setup, StreamLine, blank_client, no_setup}

-- ---- streams

-- a history as a stream shows it: all of it, or its visible changes with each commit as its document
abbrev pub view : Bool → List Change → List Change
view true h = h
view false h = plain_view h

-- the view that a stream has of its branch
abbrev pub stream_view : List Branch → ClientStream → List Change
stream_view tree g = view g.sync (hist tree g.branch)

-- a stream that begins where was asked, with no snapshot, of the newest branch of a log
abbrev pub new_stream : Setup → Request → List LogEntry → ClientStream
new_stream s r log = record { ask = r.ask; opaque = r.frame.opaque; sync = is_sync s; branch = uuid_of (front log); place = r.ask.start; last = None; over = false; turned = false; left = [] }

-- it with one more snapshot begun up to `end`, by a marker with these flags, while the branches were these
abbrev pub with_mark : List Branch → ℕ → ℕ → ClientStream → ClientStream
with_mark tree end flags g = record g { place = end; last = Some (record { history = stream_view tree g; from = g.place; end = end; disk = is_from_disk flags; items = [] }) }

-- with one more item of its last snapshot
abbrev pub with_sent : ItemLine → ClientStream → ClientStream
with_sent item g = record g { last = option_map (more_items item) g.last }

-- what a line that was told makes of it
abbrev pub told_of : List Branch → StreamLine → ClientStream → ClientStream
told_of tree (StreamLine.Marks start end flags) g = with_mark tree end flags g
told_of tree (StreamLine.Sends item) g = with_sent item g
told_of tree StreamLine.Ends g = record g { over = true }

-- of what its next item is: of what its vBucket holds, or, where that got a role, of what it held before
abbrev pub held_for : ClientStream → List Change → List Change
held_for g held = if g.turned then g.left else held

-- its vBucket, which held this, got a role
abbrev pub with_turn : List Change → ClientStream → ClientStream
with_turn held g = record g { turned = true; left = held_for g held }

-- the streams with a change of the one of the vBucket v
abbrev pub change_at : ℕ → (ClientStream → ClientStream) → (ℕ → Option ClientStream) → ℕ → Option ClientStream
change_at v change streams = λ w. if w == v then option_map change (streams w) else streams w

-- those that none of these frames closes
abbrev pub unclosed : List Frame → (ℕ → Option ClientStream) → ℕ → Option ClientStream
unclosed fs streams = λ v. if is_closed_by fs v then None else streams v

-- with one that was let continue
abbrev pub granted_if : AskAnswer → ℕ → ClientStream → (ℕ → Option ClientStream) → ℕ → Option ClientStream
granted_if ask_answer.Go v g streams = with_id streams v (Some g)
granted_if (ask_answer.Roll to) v g streams = streams
granted_if (ask_answer.Refuse code) v g streams = streams

-- ---- connections

-- a connection has a number for each of so many streams
abbrev pub STREAM_NUMBERS : ℕ
STREAM_NUMBERS = 2 ^ 32 - 1

-- it has no stream of a vBucket whose end is still to be put
abbrev pub has_none : Option ClientStream → Bool
has_none None = true
has_none (Some g) = g.over

-- a vBucket is asked to open a stream under the next number: over an open connection, with no flag, where the connection has none of it, and a number is left
abbrev pub takes_number : Setup → Option ClientStream → StreamAsk → ℕ → Bool
takes_number s had ask count = s.opened && ask.flags == 0 && has_none had && nat_lt count STREAM_NUMBERS

-- so many were asked for then
abbrev pub opened_after : Setup → Option ClientStream → StreamAsk → ℕ → ℕ
opened_after s had ask count = if takes_number s had ask count then count + 1 else count

-- the frames up to a request for a stream of the vBucket v were answered, and that so
abbrev pub past_request : Request → ℕ → List LogEntry → AskAnswer → ClientKnown → ClientKnown
past_request r v log said k = record {
  bytes = bytes_behind r k.bytes;
  setup = setup_after k.setup r.before;
  streams = granted_if said v (new_stream (setup_after k.setup r.before) r log) (unclosed r.before k.streams);
  opened = opened_after (setup_after k.setup r.before) (unclosed r.before k.streams v) r.ask k.opened;
  told = None;
  asking = k.asking;
  flow = k.flow;
}

-- where there is one
abbrev pub past_asked : Option Request → ℕ → List LogEntry → AskAnswer → ClientKnown → ClientKnown
past_asked None v log said k = k
past_asked (Some r) v log said k = past_request r v log said k

-- a line told this of one of its streams
abbrev pub with_told : StreamLine → ClientKnown → ClientKnown
with_told line k = record k { told = Some line }

-- the vBucket in the header of a frame
abbrev pub vb_in_header : List ℕ → ℕ
vb_in_header bytes = big_16_at bytes 6

-- the frame of the line that was told went out, for the stream of the vBucket in its header
abbrev pub past_frame : List Branch → List ℕ → StreamLine → ClientKnown → ClientKnown
past_frame tree bytes line k = record k { streams = change_at (vb_in_header bytes) (told_of tree line) k.streams; told = None; flow = flow_put bytes k }

-- the vBucket v of the connection's node, which held this, got a role
abbrev pub past_turn : ℕ → List Change → ClientKnown → ClientKnown
past_turn v held k = record k { streams = change_at v (with_turn held) k.streams }

-- it sent more bytes
abbrev pub with_sent_bytes : List ℕ → ClientKnown → ClientKnown
with_sent_bytes bytes k = record k { bytes = k.bytes ++ bytes; asking = record k.asking { bytes = k.asking.bytes ++ bytes }; flow = record k.flow { bytes = k.flow.bytes ++ bytes } }

-- ---- lines

-- what is known of one connection, changed so
abbrev pub with_client : ClientsKnown → ℕ → ℕ → ClientKnown → ClientsKnown
with_client clients n c k = with_at clients n c k

-- of each connection of the node n
abbrev pub with_clients_of : ClientsKnown → ℕ → (ClientKnown → ClientKnown) → ClientsKnown
with_clients_of clients n change = λ m c. if m == n then change (clients m c) else clients m c

-- a frame went out to a client: where nothing was told of its streams, it answers what was asked next
abbrev pub clients_frame : List Branch → ClientsKnown → ℕ → ℕ → List ℕ → Option StreamLine → ClientsKnown
clients_frame tree clients n c bytes None = with_client clients n c (past_answer (clients n c))
clients_frame tree clients n c bytes (Some line) = with_client clients n c (past_frame tree bytes line (clients n c))

-- what is known with one more line, but for that of a role, while the branches are these. One that was told closed is blank again
abbrev pub clients_line : List Branch → ClientsKnown → Event → ClientsKnown
clients_line tree clients (event.Asked (name.Client n c) m v ask high log said) = with_client clients n c (past_asked (request_in (clients n c).bytes) v log said (clients n c))
clients_line tree clients (event.Marked (name.Client n c) start end flags) = with_client clients n c (with_told (StreamLine.Marks start end flags) (clients n c))
clients_line tree clients (event.Item (name.Client n c) seq act key) = with_client clients n c (with_told (StreamLine.Sends (record { seq = seq; act = act; key = key })) (clients n c))
clients_line tree clients (event.Finished (name.Client n c) reason) = with_client clients n c (with_told StreamLine.Ends (clients n c))
clients_line tree clients (event.Reply n c bytes) = clients_frame tree clients n c bytes (clients n c).told
clients_line tree clients (event.Closed n c) = with_client clients n c blank_client
clients_line tree clients other = clients
