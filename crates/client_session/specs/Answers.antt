-- how a client's requests are answered
use Rattle.std.specs.Prelude.{ℕ, if◌then◌else◌, List, [], ◌∷◌, ◌++◌, map, Option, Some, None}
use Rattle.mcbp_frame.specs.declared.frame.Frame.{Frame}
use Rattle.mcbp_frame.specs.declared.frame.FaultyHead.{FaultyHead}
use Rattle.mcbp_frame.specs.Spelling.{spelling}
use Rattle.mcbp_kv.specs.Answers.{found_answer, stored_answer, bare_answer, seqno_extras}
use Rattle.mcbp_kv.specs.Replies.{reply_frame}
use Rattle.mcbp_kv.specs.declared.reply.KvReply.{KvReply}
use Rattle.vb_types.specs.declared.change.Change.{Change}
use Rattle.vb_types.specs.declared.doc.Doc.{Doc}
use Rattle.vb_events.specs.declared.event.Event.{Event}
use Rattle.vb_events.specs.declared.event.Event.TheVariants as event
use Rattle.vb_types.specs.declared.status.Status.{Status}
use Rattle.vb_types.specs.declared.status.Status.TheVariants as status
use Rattle.vb_calls.specs.declared.calls.VbAnswer.{VbAnswer}
use Rattle.vb_calls.specs.declared.calls.VbAnswer.TheVariants as answer
use Rattle.vb_calls.specs.declared.calls.VbReply.{VbReply}
use Rattle.client_session.specs.declared.session.Settings.{Settings}

-- a status alone; an answer repeats the request's opcode and opaque
abbrev pub status_reply : Frame → Status → KvReply
status_reply f st = bare_answer f.opcode st f.opaque

-- a value alone
abbrev pub value_reply : Frame → List ℕ → KvReply
value_reply f value = record (status_reply f status.Success) { value = value }

-- a document that was found, with its datatype where the client asked for the feature JSON
abbrev pub found_reply : Settings → Frame → Doc → KvReply
found_reply settings f doc = record (found_answer settings.json f.opaque doc) { opcode = f.opcode }

-- the branch and the seqno of a write, where the client asked for the feature of mutation seqnos
abbrev pub token : Settings → ℕ → ℕ → List ℕ
token settings uuid seq = if settings.seqnos then seqno_extras uuid seq else []

-- a write that was made
abbrev pub stored_reply : Settings → Frame → ℕ → ℕ → ℕ → KvReply
stored_reply settings f uuid seq cas = stored_answer f.opcode f.opaque cas (token settings uuid seq)

-- the answer to a client, by its vBucket's; a request is never answered as another call is
abbrev pub reply_to : Settings → Frame → VbAnswer → Option KvReply
reply_to settings f (answer.Status st) = Some (status_reply f st)
reply_to settings f (answer.Found doc) = Some (found_reply settings f doc)
reply_to settings f (answer.Stored uuid seq cas) = Some (stored_reply settings f uuid seq cas)
reply_to settings f other = None

-- the line that tells of an answer: the bytes of its frame
unfoldable pub reply_line : ℕ → ℕ → KvReply → Event
reply_line n c reply = event.Reply n c (spelling (reply_frame reply))

-- the line of an answer, if there is one
abbrev pub reply_lines : ℕ → ℕ → Option KvReply → List Event
reply_lines n c None = []
reply_lines n c (Some reply) = reply_line n c reply ∷ []

-- the changes that a write made on its branch
abbrev pub change_lines : ℕ → ℕ → VbAnswer → List Change → List Event
change_lines n v (answer.Stored uuid seq cas) changes = map (event.Changed n v uuid) changes
change_lines n v other changes = []

-- the lines of a request that its vBucket was asked: the changes, and then the answer; where there is no such vBucket, the request is refused as at one that is not active
abbrev pub request_lines : ℕ → ℕ → Settings → Frame → Option VbReply → List Event
request_lines n c settings f None = reply_lines n c (Some (status_reply f status.NotMyVbucket))
request_lines n c settings f (Some reply) =
    change_lines n f.vb_or_status reply.answer reply.changes ++ reply_lines n c (reply_to settings f reply.answer)

-- the lines of a frame that breaks the rules of its header: an Einval that repeats its opcode and opaque, where they are known, and then that the connection is closed
abbrev pub fault_lines : ℕ → ℕ → Option FaultyHead → List Event
fault_lines n c None = event.Closed n c ∷ []
fault_lines n c (Some head) = reply_line n c (bare_answer head.opcode status.Einval head.opaque) ∷ event.Closed n c ∷ []
