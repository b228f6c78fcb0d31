-- answers to clients, to be judged by hand
use Rattle.std.specs.Prelude.{ℕ, true, false, List, [], ◌∷◌, map, Some, None}
use Rattle.branch_model.specs.Histories.{last_seq}
use Rattle.client_session.specs.declared.session.Settings.{Settings}
use Rattle.durability.specs.Chains.{Members}
use Rattle.mcbp_dcp.specs.declared.message.DcpMsg.TheVariants as msg
use Rattle.mcbp_frame.specs.Spelling.{spelling}
use Rattle.mcbp_frame.specs.declared.frame.Frame.{Frame}
use Rattle.mcbp_frame.specs.declared.frame.TheConstants.{FRAMED_REQUEST, REQUEST}
use Rattle.mcbp_kv.specs.Answers.{bare_answer, found_answer, stored_answer, welcome_answer}
use Rattle.mcbp_kv.specs.Features.{feature_bytes}
use Rattle.mcbp_kv.specs.Replies.{reply_frame}
use Rattle.mcbp_kv.specs.declared.feature.Feature.{Feature}
use Rattle.mcbp_kv.specs.declared.opcodes.TheConstants.{DELETE, GET, HELLO, NOOP}
use Rattle.script_text.specs.declared.verb.ClientVerb.TheVariants as client_verb
use Rattle.script_text.specs.declared.verb.Verb.{Verb}
use Rattle.script_text.specs.declared.verb.Verb.TheVariants as verb
use Rattle.vb_events.specs.declared.event.Event.{Event}
use Rattle.vb_events.specs.declared.event.Event.TheVariants as event
use Rattle.vb_types.specs.declared.change.Act.TheVariants as act
use Rattle.vb_types.specs.declared.change.Change.{Change}
use Rattle.vb_types.specs.declared.doc.Doc.{Doc}
use Rattle.vb_types.specs.declared.role.Role.TheVariants as role
use Rattle.vb_types.specs.declared.status.Status.{Status}
use Rattle.transcript_law.specs.BoundRows.{LawfulHere}
use Rattle.transcript_law.specs.ClientStreamRows.{prepared}
use Rattle.transcript_law.specs.ClientAskRows.{bytes_of, resting, serving, that_sent, ticks, unopened}
use Rattle.transcript_law.specs.ClientRows.{nooped}
use Rattle.transcript_law.specs.ClientStreams.{ClientKnown}
use Rattle.transcript_law.specs.Crashes.{Said, groups_from_number, numbered}
use Rattle.transcript_law.specs.Lawfulness.{LawfulFrom, LawfulGroups}
use Rattle.transcript_law.specs.LinesTold.{Chronicle, OwnChange, after_line, after_lines, known_down}
use Rattle.transcript_law.specs.Transcripts.{first_doc, one_change, set_frame}

-- ---- what a client asks, with the opaque 9

-- a frame of a header alone
abbrev pub bare_request : ℕ → ℕ → Frame
bare_request opcode v = record { magic = REQUEST; opcode = opcode; datatype = 0; vb_or_status = v; opaque = 9; cas = 0; framing = []; extras = []; key = []; value = [] }

-- GET and DELETE of a key of one byte, at the vBucket v
abbrev pub gets : ℕ → ℕ → List ℕ
gets v key = spelling (record (bare_request GET v) { key = key ∷ [] })

abbrev pub removes : ℕ → List ℕ
removes key = spelling (record (bare_request DELETE 0) { key = key ∷ [] })

-- SET, ADD or REPLACE of such a key with such a value at the vBucket 0, with this CAS
abbrev pub writes : ℕ → ℕ → ℕ → ℕ → List ℕ
writes opcode cas key value = spelling (record (set_frame (key ∷ []) (value ∷ [])) { opcode = opcode; cas = cas })

-- a SET that is to be durable, at the level of this number
abbrev pub durably : ℕ → ℕ → ℕ → List ℕ
durably level key value = spelling (record (set_frame (key ∷ []) (value ∷ [])) { magic = FRAMED_REQUEST; framing = 17 ∷ level ∷ [] })

-- and a DELETE
abbrev pub durably_removes : ℕ → ℕ → List ℕ
durably_removes level key = spelling (record (bare_request DELETE 0) { magic = FRAMED_REQUEST; framing = 17 ∷ level ∷ []; key = key ∷ [] })

-- HELLO
abbrev pub greets : List Feature → List ℕ
greets features = spelling (record (bare_request HELLO 0) { value = feature_bytes features })

-- NOOP with a value, which it may not have; and a frame of no opcode
abbrev pub formless : List ℕ
formless = spelling (record (bare_request NOOP 0) { value = 1 ∷ [] })

abbrev pub unknown : List ℕ
unknown = spelling (bare_request 200 0)

-- an acknowledgement of bytes of streams
abbrev pub acknowledges : List ℕ
acknowledges = bytes_of 9 0 (msg.BufferAcknowledgement 64)

-- a response to NOOP, with another opaque
abbrev pub responds : List ℕ
responds = nooped 8

-- the header of a NOOP with a key that is longer than its body; that of one with a body of 32 MiB; and a byte that begins no frame
abbrev pub broken : List ℕ
broken = 128 ∷ 10 ∷ 0 ∷ 1 ∷ 0 ∷ 0 ∷ 0 ∷ 0 ∷ 0 ∷ 0 ∷ 0 ∷ 0 ∷ 0 ∷ 0 ∷ 0 ∷ 9 ∷ 0 ∷ 0 ∷ 0 ∷ 0 ∷ 0 ∷ 0 ∷ 0 ∷ 0 ∷ []

abbrev pub vast : List ℕ
vast = 128 ∷ 10 ∷ 0 ∷ 0 ∷ 0 ∷ 0 ∷ 0 ∷ 0 ∷ 2 ∷ 0 ∷ 0 ∷ 0 ∷ 0 ∷ 0 ∷ 0 ∷ 9 ∷ 0 ∷ 0 ∷ 0 ∷ 0 ∷ 0 ∷ 0 ∷ 0 ∷ 0 ∷ []

abbrev pub strange : List ℕ
strange = 1 ∷ []

-- ---- what it is told

-- a frame, and NOOP's answer of an opaque
abbrev pub sends : Frame → Event
sends g = event.Reply 0 1 (spelling g)

abbrev pub answers : ℕ → Event
answers opaque = event.Reply 0 1 (nooped opaque)

-- a status alone
abbrev pub says : ℕ → Status → Event
says opcode st = sends (reply_frame (bare_answer opcode st 9))

-- a document, with its datatype or without
abbrev pub finds : Doc → Event
finds doc = sends (reply_frame (found_answer true 9 doc))

abbrev pub finds_raw : Doc → Event
finds_raw doc = sends (reply_frame (found_answer false 9 doc))

-- a write was made, with this CAS and these extras
abbrev pub stores : ℕ → ℕ → List ℕ → Event
stores opcode cas told = sends (reply_frame (stored_answer opcode 9 cas told))

-- features
abbrev pub welcomes : List Feature → Event
welcomes features = sends (reply_frame (welcome_answer 9 features))

-- the vBucket 0 makes a change on its branch; and so does the vBucket 1, or one of another node
abbrev pub makes : Change → Event
makes change = event.Changed 0 0 5 change

abbrev pub makes_elsewhere : Change → Event
makes_elsewhere change = event.Changed 0 1 5 change

abbrev pub makes_far : Change → Event
makes_far change = event.Changed 1 0 5 change

-- the connection closes
abbrev pub shuts : Event
shuts = event.Closed 0 1

-- another one does
abbrev pub shuts_other : Event
shuts_other = event.Closed 0 2

-- ---- changes

-- the key 7 is set once, and then to 4; or it is removed then
abbrev pub once : List Change
once = one_change ∷ []

-- that set is the change of this number, and so is the prepare that waits at the key 9
abbrev pub set_at : ℕ → List Change
set_at seq = record one_change { seq = seq } ∷ []

abbrev pub prepared_at : ℕ → List Change
prepared_at seq = record prepared { seq = seq } ∷ []

-- the prepare of the key 7 waits behind that set
abbrev pub changing : List Change
changing = one_change ∷ record prepared { key = 7 ∷ [] } ∷ []

abbrev pub newer_doc : Doc
newer_doc = record (first_doc 2 (4 ∷ [])) { rev = 2 }

abbrev pub newer : Change
newer = record { seq = 2; key = 7 ∷ []; act = act.Set newer_doc }

abbrev pub removal : Change
removal = record { seq = 2; key = 7 ∷ []; act = act.Remove 2 2 }

-- a set of the key 9 behind its prepare
abbrev pub over_prepare : Change
over_prepare = record { seq = 3; key = 9 ∷ []; act = act.Set (first_doc 3 (4 ∷ [])) }

-- the key 7 is set to a document that is JSON
abbrev pub json_doc : Doc
json_doc = record (first_doc 1 (8 ∷ [])) { datatype = 1 }

abbrev pub json_once : List Change
json_once = record one_change { act = act.Set json_doc } ∷ []

-- ---- transcripts

-- the connection sent these bytes, of which nothing was answered yet, and HELLO set this
abbrev pub with_settings : Settings → List ℕ → ClientKnown
with_settings settings bytes = record (unopened bytes) { asking = record ((unopened bytes).asking) { settings = settings } }

abbrev pub for_json : Settings
for_json = record { json = true; seqnos = false }

abbrev pub for_seqnos : Settings
for_seqnos = record { json = false; seqnos = true }

-- where each vBucket is active and holds these changes, and it sent these bytes, the lines are lawful
abbrev pub LawfulTo : List Change → List ℕ → List Event → Type 0
LawfulTo changes bytes lines = LawfulFrom (serving changes (unopened bytes)) lines

-- its question was so first in an earlier group, which told this prepare of a set of the key 9
abbrev pub prepared_line : OwnChange
prepared_line = record { node = 0; vb = 0; branch = 5; change = prepared; clock = 0 }

abbrev pub awaiting_by : OwnChange → Chronicle → Chronicle
awaiting_by line chronicle = record chronicle { last = Some (record { number = 0; served = λ n c. Some (0, line ∷ []) }) }

abbrev pub awaiting : Chronicle → Chronicle
awaiting chronicle = awaiting_by prepared_line chronicle

abbrev pub LawfulAwaited : List Change → List ℕ → List Event → Type 0
LawfulAwaited changes bytes lines = LawfulFrom (awaiting (serving changes (unopened bytes))) lines

abbrev pub LawfulAwaitedBy : Settings → List Change → List ℕ → List Event → Type 0
LawfulAwaitedBy settings changes bytes lines = LawfulFrom (awaiting (serving changes (with_settings settings bytes))) lines

-- where HELLO set this
abbrev pub LawfulBy : Settings → List Change → List ℕ → List Event → Type 0
LawfulBy settings changes bytes lines = LawfulFrom (serving changes (with_settings settings bytes)) lines

-- where so many durable writes of its connection were answered before
abbrev pub with_count : ℕ → List ℕ → ClientKnown
with_count count bytes = record (unopened bytes) { asking = record ((unopened bytes).asking) { durables = count } }

abbrev pub LawfulBehind : ℕ → List Change → List ℕ → List Event → Type 0
LawfulBehind count changes bytes lines = LawfulFrom (serving changes (with_count count bytes)) lines

-- and each vBucket is dead
abbrev pub LawfulFar : ℕ → List ℕ → List Event → Type 0
LawfulFar count bytes lines = LawfulFrom (resting [] (with_count count bytes)) lines

-- where its connection was opened for a producer
abbrev pub LawfulOver : List ℕ → List Event → Type 0
LawfulOver bytes lines = LawfulFrom (serving [] (that_sent (λ v. None) bytes)) lines

-- where each vBucket is dead, or none was made
abbrev pub LawfulAway : List Change → List ℕ → List Event → Type 0
LawfulAway changes bytes lines = LawfulFrom (resting changes (unopened bytes)) lines

abbrev pub LawfulUnmade : List ℕ → List Event → Type 0
LawfulUnmade bytes lines = LawfulFrom (record (serving once (unopened bytes)) { role_at = λ n v. Some None }) lines

-- where the chain of each has these other members
abbrev pub LawfulAmong : Members → List Change → List ℕ → List Event → Type 0
LawfulAmong others changes bytes lines = LawfulFrom (record (serving changes (unopened bytes)) { counts_at = λ n v. record { chain = others; acks = []; risen = 0; times = [] } }) lines

-- what was read once the vBucket 0 became active on the branch 6 with the first of these changes, and made the others since
abbrev pub risen_known : List Change → List Change → ClientKnown → Chronicle
risen_known left since known = record (after_lines (serving left known) (event.Branch 0 0 6 (Some 5) (last_seq 0 left) (last_seq 0 left) ∷ event.Role 0 0 role.Active ∷ map (event.Changed 0 0 6) since)) { made = []; changed = false }

-- there the lines are lawful, where its connection sent these bytes
abbrev pub LawfulRisen : List Change → List Change → List ℕ → List Event → Type 0
LawfulRisen left since bytes lines = LawfulFrom (risen_known left since (unopened bytes)) lines

-- and where its node started with these changes, which tells of the branch alone
abbrev pub LawfulStarted : List Change → List ℕ → List Event → Type 0
LawfulStarted left bytes lines =
    LawfulFrom (after_line (record (serving left (unopened bytes)) { role_at = λ n v. Some (Some role.Dead); arm_at = λ n. known_down }) (event.Branch 0 0 6 (Some 5) (last_seq 0 left) (last_seq 0 left))) lines

-- ---- whole lines of a script

-- these bytes come over the connection
abbrev pub comes : List ℕ → Verb
comes bytes = verb.AtClient 0 1 (client_verb.Bytes bytes)

-- where each vBucket holds these changes, and the connection sent these bytes before, this line comes, of which this is told
abbrev pub LawfulNext : List Change → List ℕ → Verb → Said → Type 0
LawfulNext changes bytes line said = LawfulHere (serving changes (unopened bytes)) line said

abbrev pub LawfulStill : List Change → List ℕ → Verb → Said → Type 0
LawfulStill changes bytes line said = LawfulHere (awaiting (serving changes (unopened bytes))) line said

-- so do two lines behind which a wait may be over
abbrev pub LawfulTicks : List Change → List ℕ → List Said → Type 0
LawfulTicks changes bytes told = LawfulGroups (serving changes (unopened bytes)) (numbered 1 (ticks ∷ ticks ∷ [])) (groups_from_number 1 told)
