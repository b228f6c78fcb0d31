-- what a producer tells and puts as it answers a frame at a client's desk, in words beside the definitions, and what a client's connection acknowledges, worked by hand
use Rattle.std.specs.Prelude.{◌≡◌, ◌⊎◌, ℕ, ◌*◌, ◌^◌, ◌<◌, false, true, List, [], ◌∷◌, ◌++◌, length, Option, Some, None, Ok}
use Rattle.mcbp_frame.specs.Spelling.{spelling}
use Rattle.mcbp_frame.specs.declared.frame.Frame.{Frame}
use Rattle.mcbp_frame.specs.declared.frame.TheConstants.{REQUEST, RESPONSE}
use Rattle.mcbp_kv.specs.Answers.{IsBare}
use Rattle.mcbp_dcp.specs.DcpFrames.{dcp_frame}
use Rattle.mcbp_dcp.specs.Messages.{read_of}
use Rattle.mcbp_dcp.specs.declared.message.DcpMsg.{DcpMsg}
use Rattle.mcbp_dcp.specs.declared.message.DcpMsg.TheVariants as msg
use Rattle.mcbp_dcp.specs.declared.shape.TheConstants.{ENTRY_LEN}
use Rattle.vb_types.specs.declared.role.LogEntry.{LogEntry}
use Rattle.vb_types.specs.declared.stream.AskAnswer.{AskAnswer}
use Rattle.vb_types.specs.declared.stream.StreamAsk.{StreamAsk}
use Rattle.vb_events.specs.declared.event.Event.TheVariants as event
use Rattle.vb_events.specs.declared.event.StreamName.{StreamName}
use Rattle.vb_events.specs.declared.event.StreamName.TheVariants as name
use Rattle.vb_calls.specs.declared.calls.VbAnswer.{VbAnswer}
use Rattle.vb_calls.specs.declared.calls.VbAnswer.TheVariants as answer
use Rattle.vb_calls.specs.declared.calls.VbCall.{VbCall}
use Rattle.vb_calls.specs.declared.calls.VbCall.TheVariants as call
use Rattle.vb_calls.specs.declared.calls.VbReply.{VbReply}
use Rattle.vb_calls.specs.Jobs.{Job, lift}
use Rattle.dcp_producer.specs.Handshaking.{Asks}
use Rattle.dcp_producer.specs.Having.{IsOpened}
use Rattle.dcp_producer.specs.Producers.{Served, begun}
use Rattle.dcp_producer.specs.Rows.{alone, asked_in, some_desk, some_stream, with_streams}
use Rattle.dcp_producer.specs.Serving.{message_answered, stream_verdict}

-- ---- one frame, one answer

-- a frame that asks, and is read as this message
abbrev pub IsRead : Frame → DcpMsg → Type 0
IsRead f m = Asks f true × (f.datatype ≡ 0) × (read_of f ≡ Some (Ok m))

-- a frame that has no answer: a response, or BUFFER_ACKNOWLEDGEMENT on an open connection
abbrev pub IsSilent : Frame → Served → Type 0
IsSilent f s = (f.magic ≡ RESPONSE) ⊎ ((bytes : ℕ) × IsRead f (msg.BufferAcknowledgement bytes) × IsOpened s)

-- nothing is told, and nothing put
abbrev pub SaysNothing : Served → Served → Type 0
SaysNothing s s' = (s'.events ≡ s.events) × (s'.out ≡ s.out)

-- the answer to a frame of which no line tells: a status alone, or to GET_FAILOVER_LOG such a log
abbrev pub IsAnswer : (List LogEntry → Type 0) → Frame → Frame → Type 0
IsAnswer L f g =
    ((code : ℕ) × IsBare g f.opcode code f.opaque) ⊎ ((log : List LogEntry) × L log × IsRead f msg.GetFailoverLog × (g ≡ dcp_frame (msg.LogAnswer 0 log) f.opaque 0))

-- such an answer is put, and nothing told
abbrev pub SaysOne : (List LogEntry → Type 0) → Frame → Served → Served → Type 0
SaysOne L f s s' = (g : Frame) × IsAnswer L f g × (s'.events ≡ s.events) × (s'.out ≡ s.out ++ spelling g)

-- the answer to a request for a stream is put, and one line tells what it says, of the connection's stream and of the vBucket that the frame names, with such a log
pub record SaysAsk (L : List LogEntry → Type 0) (f : Frame) (s s' : Served) : Type 0 where
  pub ask : StreamAsk
  pub high : ℕ
  pub log : List LogEntry
  pub said : AskAnswer
  pub logged : L log
  pub read : IsRead f (msg.StreamRequest ask)
  pub line : s'.events ≡ s.events ++ event.Asked s.end.desk.stream s.end.desk.node f.vb_or_status ask high log said ∷ []
  pub frame : s'.out ≡ s.out ++ spelling (dcp_frame (msg.StreamAnswer (stream_verdict log said)) f.opaque 0)

-- A frame has one answer, and at most one line tells of it; a response, and BUFFER_ACKNOWLEDGEMENT of an open connection, have none. No frame of a stream is counted, nothing became of durable writes, and the connection is the same one
pub record AnswersOnce (L : List LogEntry → Type 0) (f : Frame) (s s' : Served) : Type 0 where
  pub told : (IsSilent f s × SaysNothing s s') ⊎ ((IsSilent f s → ⊥) × (SaysOne L f s s' ⊎ SaysAsk L f s s'))
  pub count : s'.count ≡ s.count
  pub resolved : s'.resolved ≡ s.resolved
  pub desk : s'.end.desk ≡ s.end.desk

-- the calls that are made for it: a stream is opened or closed at the vBucket v, or its failover log is asked for
abbrev pub AsksOf : ℕ → ℕ → VbCall → Type 0
AsksOf v w (call.OpenStream id ask sync) = w ≡ v
AsksOf v w (call.CloseStream id) = w ≡ v
AsksOf v w call.Log = w ≡ v
AsksOf v w other = ⊥

-- whatever a log is
abbrev pub AnyLog : List LogEntry → Type 0
AnyLog log = Unit {0}

-- a log whose answer has a length that its field holds
abbrev pub IsShortLog : List LogEntry → Type 0
IsShortLog log = ENTRY_LEN * length log < 2 ^ 32

-- a vBucket tells no other log
abbrev pub GaveLogs : (List LogEntry → Type 0) → VbAnswer → Type 0
GaveLogs L (answer.Asked said log high) = L log
GaveLogs L (answer.Opened log high from) = L log
GaveLogs L (answer.Logged log) = L log
GaveLogs L other = Unit {0}

abbrev pub GivesLogs : (List LogEntry → Type 0) → VbCall → Option VbReply → Type 0
GivesLogs L call None = Unit {0}
GivesLogs L call (Some reply) = GaveLogs L reply.answer

-- ---- acknowledgements, worked by hand

-- a member's connection of this name, open, with a stream of the vBucket 3 that reached the seqno 5
abbrev pub named_so : StreamName → Served
named_so n = begun (record (with_streams (some_stream 1 5 false ∷ []) 0) { desk = record some_desk { stream = n } })

-- an acknowledgement of all up to the seqno 5 of the vBucket 3
abbrev pub seqno_frame : Frame
seqno_frame = record { magic = REQUEST; opcode = 0x61; datatype = 0; vb_or_status = 3; opaque = 0x01020304; cas = 0; framing = []; extras = 0 ∷ 0 ∷ 0 ∷ 0 ∷ 0 ∷ 0 ∷ 0 ∷ 5 ∷ []; key = []; value = [] }

abbrev pub acknowledged_by : StreamName → Job Served
acknowledged_by n = lift (message_answered seqno_frame (msg.SeqnoAcknowledged 5) (named_so n))

-- the answer NotSupported to it
abbrev pub not_supported : List ℕ
not_supported =
    0x81 ∷ 0x61 ∷ 0 ∷ 0 ∷ 0 ∷ 0 ∷ 0x00 ∷ 0x83 ∷ 0 ∷ 0 ∷ 0 ∷ 0 ∷ 0x01 ∷ 0x02 ∷ 0x03 ∷ 0x04
    ∷ 0 ∷ 0 ∷ 0 ∷ 0 ∷ 0 ∷ 0 ∷ 0 ∷ 0 ∷ []

-- On a link's connection the vBucket is asked to count it for the member; on a client's, of which all else is the same, nobody is asked, no line tells of it, and it is NotSupported.
pub record CountsNothing : Type 0 where
  pub link : asked_in (acknowledged_by (name.Link 1)) ≡ (3, call.Ack 4 5) ∷ []
  pub client : asked_in (acknowledged_by (name.Client 2 1)) ≡ []
  pub lines : (alone (acknowledged_by (name.Client 2 1))).events ≡ []
  pub out : (alone (acknowledged_by (name.Client 2 1))).out ≡ not_supported
