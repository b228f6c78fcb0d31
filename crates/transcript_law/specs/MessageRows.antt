-- answers to messages of DCP, to be judged by hand
use Rattle.std.specs.Prelude.{◌≡◌, ℕ, Bool, true, false, List, [], ◌∷◌, Option, Some, None}
use Rattle.mcbp_dcp.specs.DcpFrames.{dcp_frame}
use Rattle.mcbp_dcp.specs.declared.message.DcpMsg.{DcpMsg}
use Rattle.mcbp_dcp.specs.declared.message.DcpMsg.TheVariants as msg
use Rattle.mcbp_frame.specs.Spelling.{spelling}
use Rattle.mcbp_frame.specs.declared.frame.Frame.{Frame}
use Rattle.mcbp_kv.specs.Answers.{bare_answer}
use Rattle.mcbp_kv.specs.Replies.{reply_frame}
use Rattle.vb_types.specs.Statuses.{status_code}
use Rattle.vb_types.specs.declared.role.LogEntry.{LogEntry}
use Rattle.vb_types.specs.declared.role.Role.{Role}
use Rattle.vb_types.specs.declared.role.Role.TheVariants.{Dead}
use Rattle.vb_types.specs.declared.status.Status.{Status}
use Rattle.vb_types.specs.declared.status.Status.TheVariants as status
use Rattle.transcript_law.specs.Chronicles.{Chronicle, empty_chronicle}
use Rattle.transcript_law.specs.ClientAskRows.{unopened}
use Rattle.transcript_law.specs.ClientStreamRows.{knows, one, put_two, with_streams}
use Rattle.transcript_law.specs.ClientStreams.{ClientKnown, ClientStream, no_setup}
use Rattle.transcript_law.specs.LawfulAnswers.{LawfulReply}
use Rattle.transcript_law.specs.LawfulMessages.{FitsDcp, Moment, moment_of}
use Rattle.transcript_law.specs.Questions.{Question, question_of}
use Rattle.transcript_law.specs.StreamsTold.{Setup}

-- ---- messages, and what was set before

-- before OPEN
abbrev pub fresh : Moment
fresh = record { setup = no_setup; stream = None; told = false; durables = 0 }

-- over an open connection that has this stream of the vBucket, or none
abbrev pub open_setup : Setup
open_setup = record { opened = true; sync = false; named = false }

abbrev pub over_with : Option ClientStream → Moment
over_with stream = record { setup = open_setup; stream = stream; told = false; durables = 0 }

abbrev pub over : Moment
over = over_with None

-- which a line told of the frame
abbrev pub told_of : Moment
told_of = record over { told = true }

-- a message for the vBucket 0, with the opaque 9
abbrev pub asks : DcpMsg → Frame
asks m = dcp_frame m 9 0

abbrev pub opens : ℕ → Frame
opens flags = asks (msg.Open 0 flags (120 ∷ []))

abbrev pub sets : List ℕ → List ℕ → Frame
sets key value = asks (msg.Control key value)

-- NOOP with a datatype, and with a value, which it may not have
abbrev pub typed : Frame
typed = record (asks msg.Noop) { datatype = 1 }

abbrev pub formless : Frame
formless = record (asks msg.Noop) { value = 1 ∷ [] }

-- SET_VBUCKET_STATE, which no producer takes
abbrev pub stated : Frame
stated = asks (msg.SetVbucketState Dead)

-- ---- answers

-- a status alone, with this opaque
abbrev pub status_to : Frame → ℕ → Status → Frame
status_to f opaque st = reply_frame (bare_answer f.opcode st opaque)

-- with a value too
abbrev pub value_to : Frame → Frame
value_to f = record (status_to f 9 status.Success) { value = 1 ∷ [] }

-- a failover log with this branch, and its answer
abbrev pub named : ℕ → List LogEntry
named uuid = record { uuid = uuid; seq = 0 } ∷ []

abbrev pub log_to : ℕ → List LogEntry → Frame
log_to opaque log = dcp_frame (msg.LogAnswer (status_code status.Success) log) opaque 0

-- the same bytes as an answer that is no success
abbrev pub log_refused : List LogEntry → Frame
log_refused log = record (log_to 9 log) { vb_or_status = status_code status.NotMyVbucket }

-- ---- what is known

-- of each vBucket this role is known, and this log
abbrev pub knowing : Option (Option Role) → Option (List LogEntry) → Chronicle
knowing role log = record empty_chronicle { role_at = λ n v. role; log_at = λ n v. log }

-- the answer fits, where each vBucket is dead, with a log of the branch 5
abbrev pub Fits : Moment → Frame → Frame → Type 0
Fits at f g = FitsDcp (knowing (Some (Some Dead)) (Some (named 5))) 0 at f g

-- with this status alone
abbrev pub IsTold : Moment → Frame → Status → Type 0
IsTold at f st = Fits at f (status_to f 9 st)

-- where the log of a dead vBucket is not known, and where there is no vBucket
abbrev pub FitsUnknown : Frame → Type 0
FitsUnknown g = FitsDcp (knowing (Some (Some Dead)) None) 0 over (asks msg.GetFailoverLog) g

abbrev pub FitsAway : Frame → Type 0
FitsAway g = FitsDcp (knowing (Some None) (Some [])) 0 over (asks msg.GetFailoverLog) g

-- ---- when a frame is asked

-- of a connection that is open for a producer, with a stream of the vBucket 0, these bytes are known behind its last request for a stream, and these behind its last answer
abbrev pub sent_behind : List ℕ → List ℕ → ClientKnown
sent_behind request answer = record (with_streams (one put_two)) { bytes = request; asking = record { bytes = answer; answered = 0; setup = open_setup; settings = (unopened []).asking.settings; durables = 0 } }

-- what is asked next finds this stream, and a line told of it or did not
abbrev pub Finds : ClientKnown → Option ClientStream → Type 0
Finds known stream = (q : Question) × (question_of known.asking ≡ Some q) × ((moment_of known known.asking q).stream ≡ stream)

abbrev pub IsToldOf : ClientKnown → Bool → Type 0
IsToldOf known told = (q : Question) × (question_of known.asking ≡ Some q) × ((moment_of known known.asking q).told ≡ told)

-- a CLOSE_STREAM with the opaque 4, which is asked next, is answered with this status alone
abbrev pub LawfulClosed : ClientKnown → Status → Type 0
LawfulClosed known st = LawfulReply (record (knowing (Some (Some Dead)) None) { clients_at = knows known }) 0 1 known.asking (spelling (status_to (asks msg.CloseStream) 4 st)) []
