-- requests of clients for streams, and pulls of their frames, to be judged by hand
use Rattle.branch_model.specs.Trees.{Branch}
use Rattle.std.specs.Prelude.{◌≡◌, ℕ, Bool, true, List, [], ◌∷◌, ◌++◌, codes, Option, Some, None, drop}
use Rattle.mcbp_dcp.specs.DcpFrames.{dcp_frame}
use Rattle.mcbp_dcp.specs.declared.message.DcpMsg.{DcpMsg}
use Rattle.mcbp_dcp.specs.declared.message.DcpMsg.TheVariants as msg
use Rattle.mcbp_frame.specs.Spelling.{spelling}
use Rattle.dcp_producer.specs.Serving.{stream_verdict}
use Rattle.script_text.specs.declared.verb.ClientVerb.TheVariants as client_verb
use Rattle.script_text.specs.declared.verb.Verb.{Verb}
use Rattle.script_text.specs.declared.verb.Verb.TheVariants as verb
use Rattle.script_text.specs.declared.verb.VbVerb.TheVariants as vb_verb
use Rattle.vb_types.specs.declared.change.Change.{Change}
use Rattle.vb_types.specs.declared.role.LogEntry.{LogEntry}
use Rattle.vb_types.specs.declared.role.Role.TheVariants.{Active, Dead}
use Rattle.vb_types.specs.declared.stream.AskAnswer.{AskAnswer}
use Rattle.vb_types.specs.declared.stream.AskAnswer.TheVariants as ask_answer
use Rattle.vb_types.specs.declared.stream.StreamAsk.{StreamAsk}
use Rattle.vb_events.specs.declared.event.Answer.TheVariants as answer
use Rattle.vb_events.specs.declared.event.Event.{Event}
use Rattle.vb_events.specs.declared.event.Event.TheVariants as event
use Rattle.vb_events.specs.declared.event.StreamName.TheVariants as name
use Rattle.vb_events.specs.declared.event.Why.TheVariants as why
use Rattle.transcript_law.specs.AnsweredRows.{durable_bytes}
use Rattle.transcript_law.specs.BoundRows.{LawfulHere}
use Rattle.transcript_law.specs.Chronicles.{Chronicle}
use Rattle.transcript_law.specs.ClientFrames.{Request, is_sync, request_in, setup_after}
use Rattle.transcript_law.specs.ClientStreamRows.{all_changes, asks_for, ended, holding, knows, marked, open_setup, sent, two, up_to, with_streams}
use Rattle.transcript_law.specs.ClientStreams.{ClientKnown, ClientStream, blank_client, no_setup}
use Rattle.transcript_law.specs.Crashes.{Said, groups_from_number, numbered, ok}
use Rattle.transcript_law.specs.Followers.{log_of, next_change}
use Rattle.transcript_law.specs.Lawfulness.{LawfulFrom, LawfulGroups}
use Rattle.transcript_law.specs.LinesTold.{blank_disk}
use Rattle.transcript_law.specs.Pulls.{frames_in_lines}
use Rattle.transcript_law.specs.StreamsTold.{blank_asking}
use Rattle.transcript_law.specs.Transcripts.{one_change}

-- ---- what a client sends

-- a message with this opaque, for a vBucket
abbrev pub bytes_of : ℕ → ℕ → DcpMsg → List ℕ
bytes_of opaque v m = spelling (dcp_frame m opaque v)

-- OPEN for a producer, and for what is no producer
abbrev pub opening : ℕ → List ℕ
opening flags = bytes_of 1 0 (msg.Open 0 flags (120 ∷ []))

-- CONTROL of durable writes, and of a name
abbrev pub syncing : List ℕ → List ℕ
syncing value = bytes_of 2 0 (msg.Control (codes "enable_sync_writes") value)

abbrev pub naming : List ℕ → List ℕ
naming value = bytes_of 3 0 (msg.Control (codes "consumer_name") value)

-- a request for a stream of the vBucket v
abbrev pub requesting : ℕ → StreamAsk → List ℕ
requesting v ask = bytes_of 9 v (msg.StreamRequest ask)

-- CLOSE_STREAM of the vBucket v
abbrev pub closing : ℕ → List ℕ
closing v = bytes_of 4 v msg.CloseStream

-- both with a datatype, for the vBucket 0
abbrev pub typed : ℕ → DcpMsg → List ℕ
typed opaque m = spelling (record (dcp_frame m opaque 0) { datatype = 1 })

abbrev pub requesting_typed : StreamAsk → List ℕ
requesting_typed ask = typed 8 (msg.StreamRequest ask)

abbrev pub closing_typed : List ℕ
closing_typed = typed 4 msg.CloseStream

-- the first request in these bytes is for a stream that is shown durable writes, or for one that is not
abbrev pub AsksSync : List ℕ → Bool → Type 0
AsksSync bytes sync = (r : Request) × (request_in bytes ≡ Some r) × (is_sync (setup_after no_setup r.before) ≡ sync)

-- ---- requests

-- each vBucket is active on the branch 5, and holds these changes; and this is known of the connection
abbrev pub serving : List Change → ClientKnown → Chronicle
serving changes known = record (holding changes changes) { role_at = λ n v. Some (Some Active); log_at = λ n v. Some (log_of 5); clients_at = knows known }

-- where they hold both changes, the lines of this connection are lawful
abbrev pub LawfulAsked : ClientKnown → List Event → Type 0
LawfulAsked known lines = LawfulFrom (serving two known) lines

-- an open connection with these streams that sent these bytes, of which none was answered, and one that is not open for a producer
abbrev pub that_sent : (ℕ → Option ClientStream) → List ℕ → ClientKnown
that_sent streams bytes = record (with_streams streams) { bytes = bytes; asking = record blank_asking { bytes = bytes; setup = open_setup } }

abbrev pub unopened : List ℕ → ClientKnown
unopened bytes = record blank_client { bytes = bytes; asking = record blank_asking { bytes = bytes } }

-- the first of them, where each of its frames was answered, and none asked for a stream
abbrev pub that_asked : (ℕ → Option ClientStream) → List ℕ → ClientKnown
that_asked streams bytes = record (with_streams streams) { bytes = bytes }

-- none
abbrev pub none : ℕ → Option ClientStream
none v = None

-- an open connection with no stream, that asked vBuckets to open so many before, and sent these bytes
abbrev pub that_opened : ℕ → List ℕ → ClientKnown
that_opened count bytes = record (that_sent none bytes) { opened = count }

-- BUFFER_ACKNOWLEDGEMENT of so many bytes, and CONTROL of the window's size
abbrev pub acking : ℕ → List ℕ
acking count = bytes_of 5 0 (msg.BufferAcknowledgement count)

abbrev pub sizing : List ℕ → List ℕ
sizing value = bytes_of 6 0 (msg.Control (codes "connection_buffer_size") value)

-- an open connection with these streams, whose window has this size, and so much outstanding; these bytes, which are counted into it next, were answered
abbrev pub with_window : ℕ → ℕ → List ℕ → (ℕ → Option ClientStream) → ClientKnown
with_window size out bytes streams = record (with_streams streams) { flow = record { bytes = bytes; setup = open_setup; window = record { size = size; outstanding = out } } }

-- the same, of one that waits for a durable write
abbrev pub with_window_waiting : ℕ → ℕ → List ℕ → (ℕ → Option ClientStream) → ClientKnown
with_window_waiting size out bytes streams = record (with_window size out (durable_bytes ++ bytes) streams) { asking = record blank_asking { bytes = durable_bytes ++ bytes; setup = open_setup } }

-- a message is the answer to a frame of this opaque
abbrev pub replies : DcpMsg → ℕ → Event
replies m opaque = event.Reply 0 1 (spelling (dcp_frame m opaque 0))

-- OPEN and CLOSE_STREAM are answered, and what has a datatype is refused
abbrev pub opens_first : Event
opens_first = replies (msg.OpenAnswer 0) 1

abbrev pub closes_first : Event
closes_first = replies (msg.CloseAnswer 0) 4

abbrev pub typed_refused : Event
typed_refused = replies (msg.StreamAnswer (stream_verdict (log_of 5) (ask_answer.Refuse 4))) 8

abbrev pub typed_close_refused : Event
typed_close_refused = replies (msg.CloseAnswer 4) 4

-- the vBucket v of the node n answers a request, and the answer goes out with this opaque
abbrev pub asked_at : ℕ → ℕ → ℕ → StreamAsk → AskAnswer → List Event
asked_at n v opaque ask said = event.Asked (name.Client 0 1) n v ask 2 (log_of 5) said ∷ event.Reply 0 1 (spelling (dcp_frame (msg.StreamAnswer (stream_verdict (log_of 5) said)) opaque 0)) ∷ []

abbrev pub asked : StreamAsk → AskAnswer → List Event
asked ask said = asked_at 0 0 9 ask said

-- by this high seqno and this log
abbrev pub asked_by : ℕ → List LogEntry → StreamAsk → AskAnswer → List Event
asked_by high log ask said = event.Asked (name.Client 0 1) 0 0 ask high log said ∷ event.Reply 0 1 (spelling (dcp_frame (msg.StreamAnswer (stream_verdict log said)) 9 0)) ∷ []

-- that for all changes is let continue, and an answer with this log goes out
abbrev pub goes_as : List LogEntry → AskAnswer → List Event
goes_as log sent = event.Asked (name.Client 0 1) 0 0 all_changes 2 (log_of 5) ask_answer.Go ∷ event.Reply 0 1 (spelling (dcp_frame (msg.StreamAnswer (stream_verdict log sent)) 9 0)) ∷ []

-- a request for a takeover, and one with flags that are not known
abbrev pub taking_over : StreamAsk
taking_over = record all_changes { flags = 1 }

abbrev pub flagged : StreamAsk
flagged = record all_changes { flags = 2 }

-- one from inside a snapshot that ends above both changes
abbrev pub past_both : StreamAsk
past_both = asks_for 0 2 3 9

-- without the answer's frame
abbrev pub unanswered : StreamAsk → List Event
unanswered ask = event.Asked (name.Client 0 1) 0 0 ask 2 (log_of 5) ask_answer.Go ∷ []

-- ---- pulls

-- nine frames are asked for over the connection where vBuckets hold these changes, and this is told of that
abbrev pub LawfulPulled : List Change → ClientKnown → Said → Type 0
LawfulPulled changes known said = LawfulHere (serving changes known) (verb.AtClient 0 1 (client_verb.Pull 9)) said

-- each vBucket is dead, and no stream is known to have ended for that
abbrev pub resting : List Change → ClientKnown → Chronicle
resting changes known = record (serving changes known) { role_at = λ n v. Some (Some Dead) }

-- nothing is put, as if there was nothing
abbrev pub idle : Said
idle = ([], answer.Pulled 0 why.Idle)

-- or as if a stream waited
abbrev pub waiting_now : Said
waiting_now = ([], answer.Pulled 0 why.WaitSaved)

-- or as if the window was shut
abbrev pub full_now : Said
full_now = ([], answer.Pulled 0 why.Full)

-- or as if the journal of one could not be read
abbrev pub unread_now : Said
unread_now = ([], answer.Pulled 0 why.Disk)

-- each vBucket counts the changes up to this seqno as saved, and its journal is closed, or is not
abbrev pub journal_so : Bool → ℕ → Chronicle → Chronicle
journal_so closed seq read = record read { disk_at = λ n v. record blank_disk { there = true; saved = seq; closed = closed } }

-- so a pull over the connection is answered then
abbrev pub LawfulUnread : Bool → ℕ → List Change → ClientKnown → Type 0
LawfulUnread closed seq changes known = LawfulHere (journal_so closed seq (serving changes known)) (verb.AtClient 0 1 (client_verb.Pull 9)) unread_now

-- each vBucket counts the changes up to this seqno as saved
abbrev pub saved_to : ℕ → Chronicle → Chronicle
saved_to seq read = record read { disk_at = λ n v. record blank_disk { saved = seq } }

-- so a pull over the connection is answered then
abbrev pub LawfulWaits : ℕ → List Change → (ℕ → Option ClientStream) → Type 0
LawfulWaits seq changes streams = LawfulHere (saved_to seq (serving changes (with_streams streams))) (verb.AtClient 0 1 (client_verb.Pull 9)) waiting_now

-- so many frames are put, as these lines tell, and there is no more
abbrev pub puts : ℕ → List Event → Said
puts count lines = (lines, answer.Pulled count why.Idle)

-- the stream whose vBucket got a role
abbrev pub moved : ClientStream → ClientStream
moved g = record g { turned = true }

-- both changes are put, and then the end
abbrev pub all_lines : List Event
all_lines = marked 0 0 2 ++ sent 0 one_change ++ sent 0 next_change ++ ended 0 0

-- another client is sent the marker of both
abbrev pub other_marked : List Event
other_marked = event.Marked (name.Client 0 2) 0 2 1 ∷ event.Reply 0 2 (spelling (dcp_frame (msg.SnapshotMarker 0 2 1) 9 0)) ∷ []

-- ---- a story

-- a client opens its connection for a producer, asks for durable writes, gives its name, and asks for the first two changes; and then for nine frames
abbrev pub indexes : List Verb
indexes = verb.AtClient 0 1 (client_verb.Bytes (opening 1 ++ syncing (codes "true") ++ naming (codes "x") ++ requesting 0 (up_to 2))) ∷ verb.AtClient 0 1 (client_verb.Pull 9) ∷ []

-- each is answered, and frames are put as these lines tell
abbrev pub indexed : List Event → List Said
indexed lines = ok (replies (msg.OpenAnswer 0) 1 ∷ replies (msg.ControlAnswer 0) 2 ∷ replies (msg.ControlAnswer 0) 3 ∷ asked (up_to 2) ask_answer.Go) ∷ puts (frames_in_lines lines) lines ∷ []

-- the connection was opened before, and sent nothing
abbrev pub LawfulStory : List Said → Type 0
LawfulStory told = LawfulGroups (serving two blank_client) (numbered 1 indexes) (groups_from_number 1 told)

-- ---- what lines may tell

-- a pull of this connection, bytes for it, and its end
abbrev pub pulls : Verb
pulls = verb.AtClient 0 1 (client_verb.Pull 9)

abbrev pub sends_none : Verb
sends_none = verb.AtClient 0 1 (client_verb.Bytes [])

abbrev pub hangs_up : Verb
hangs_up = verb.AtClient 0 1 client_verb.Hang

-- a line that answers what waited behind durable writes
abbrev pub ticks : Verb
ticks = verb.AtVb 0 0 vb_verb.Tick

-- lines of the streams of the client c of this node
abbrev pub client_asks : ℕ → StreamAsk → Event
client_asks c ask = event.Asked (name.Client 0 c) 0 0 ask 0 [] (ask_answer.Refuse 7)

abbrev pub client_marks : ℕ → Event
client_marks c = event.Marked (name.Client 0 c) 0 2 1

abbrev pub client_ends : ℕ → Event
client_ends c = event.Finished (name.Client 0 c) 2

-- a vBucket takes the first change from this client, acknowledges it to it, and counts that as the node 1's
abbrev pub client_gives : Event
client_gives = event.Got 0 0 (name.Client 0 1) one_change

abbrev pub client_hears : Event
client_hears = event.Acknowledged (name.Client 0 1) 0 0 1 0

abbrev pub client_counts : Event
client_counts = event.Counted (name.Client 0 1) 0 0 1 1

-- what is left of these bytes behind the first ones comes
abbrev pub sends_rest : ℕ → List ℕ → Verb
sends_rest n bytes = verb.AtClient 0 1 (client_verb.Bytes (drop n bytes))

-- the branch 5, which has another change behind the first one, and the branch 7, which was made from it behind the first one and has the next: it is the newest of each vBucket
abbrev pub forked_tree : List Branch
forked_tree = record { id = 7; parent = Some 5; fork = 1; own = next_change ∷ [] } ∷ record { id = 5; parent = None; fork = 0; own = one_change ∷ record next_change { key = 8 ∷ [] } ∷ [] } ∷ []

abbrev pub forked_log : List LogEntry
forked_log = record { uuid = 7; seq = 1 } ∷ log_of 5

abbrev pub forked : ClientKnown → Chronicle
forked known = record (serving two known) { tree = forked_tree; log_at = λ n v. Some forked_log }

-- a request of the branch 5 for what comes above the first change is let continue there
abbrev pub asked_forked : List Event
asked_forked = event.Asked (name.Client 0 1) 0 0 (asks_for 1 1 1 9) 2 forked_log ask_answer.Go ∷ event.Reply 0 1 (spelling (dcp_frame (msg.StreamAnswer (stream_verdict forked_log ask_answer.Go)) 9 0)) ∷ []
