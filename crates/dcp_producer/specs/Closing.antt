-- what CLOSE_STREAM and GET_FAILOVER_LOG come to, in words beside the definitions
use Rattle.std.specs.Prelude.{ℕ, ◌≡◌, true, false, List, [], ◌∷◌, ◌++◌, Option, Some, None}
use Rattle.std.specs.Int.{w64, to_be_bytes}
use Rattle.std.specs.List.{flat_map}
use Rattle.mcbp_frame.specs.declared.frame.Frame.{Frame}
use Rattle.mcbp_frame.specs.Spelling.{spelling}
use Rattle.mcbp_kv.specs.Answers.{IsAnswer, IsBare}
use Rattle.mcbp_dcp.specs.declared.message.DcpMsg.TheVariants as msg
use Rattle.flow_control.specs.Laws.{ahead, behind, others}
use Rattle.vb_types.specs.declared.role.LogEntry.{LogEntry}
use Rattle.vb_calls.specs.declared.calls.VbAnswer.TheVariants as answer
use Rattle.vb_calls.specs.declared.calls.VbCall.TheVariants as call
use Rattle.vb_calls.specs.declared.calls.VbReply.{VbReply}
use Rattle.vb_calls.specs.Programs.{Done, Made, Told}
use Rattle.dcp_producer.specs.Producers.{PlainStream, PlainProducer, Served, ring_of}
use Rattle.dcp_producer.specs.Handshaking.{Gets}
use Rattle.dcp_producer.specs.Having.{IsOpened, NoneOf}
use Rattle.dcp_producer.specs.Serving.{message_answered}

-- a stream is no more: those before and behind it are as they were, and in their turns, and nothing else of the connection changes
pub record Leaves (stream : PlainStream) (old new : PlainProducer) : Type 0 where
  pub front : List PlainStream
  pub back : List PlainStream
  pub stood : old.streams ≡ front ++ stream ∷ back
  pub left : new.streams ≡ front ++ back
  pub rest : new ≡ record old { streams = new.streams; turn = new.turn }
  pub ahead : ahead (ring_of new) ≡ others stream.id (ahead (ring_of old))
  pub behind : behind (ring_of new) ≡ others stream.id (behind (ring_of old))

-- CLOSE_STREAM of this stream was answered with Success, and with no line; the connection has no stream of the vBucket then
pub record Closed (f : Frame) (stream : PlainStream) (s s' : Served) : Type 0 where
  pub frame : Frame
  pub is : IsBare frame f.opcode 0 f.opaque
  pub out : s'.out ≡ s.out ++ spelling frame
  pub rest : (s'.events ≡ s.events) × (s'.count ≡ s.count) × (s'.resolved ≡ s.resolved)
  pub leaves : Leaves stream s.end s'.end
  pub silent : NoneOf f.vb_or_status s'.end.streams

-- the vBucket is told so by one call, of the stream's number, unless a change of role ended it; then there is no call
pub record ClosesIt (f : Frame) (stream : PlainStream) (s : Served) (made : List Made) (s' : Served) : Type 0 where
  pub closed : Closed f stream s s'
  pub told : stream.ended ≡ false → (reply : Option VbReply) × (made ≡ (f.vb_or_status, call.CloseStream stream.id, reply) ∷ [])
  pub untold : stream.ended ≡ true → made ≡ []

-- an entry of a log: its branch, and then the seqno at which that was made, eight bytes each
abbrev pub entry_bytes : LogEntry → List ℕ
entry_bytes entry = to_be_bytes w64 entry.uuid ++ to_be_bytes w64 entry.seq

-- a log is answered: one frame with Success has it as its value, entry by entry, and nothing else changes
pub record Logs (f : Frame) (log : List LogEntry) (s s' : Served) : Type 0 where
  pub frame : Frame
  pub header : IsAnswer frame 0x54 0 f.opaque 0
  pub cas : frame.cas ≡ 0
  pub extras : frame.extras ≡ []
  pub value : frame.value ≡ flat_map entry_bytes log
  pub only : s' ≡ record s { out = s.out ++ spelling frame }

-- GET_FAILOVER_LOG by this reply of the vBucket that it names: its log, and NotMyVbucket where there is no such vBucket
pub record LogsAs (f : Frame) (s s' : Served) (reply : Option VbReply) : Type 0 where
  pub logged : (r : VbReply) (log : List LogEntry) → reply ≡ Some r → r.answer ≡ answer.Logged log → Logs f log s s'
  pub absent : reply ≡ None → Gets 7 s.end.handshake f s (Done s')

-- that vBucket is asked for its log once
abbrev pub OneLog : Frame → Served → Type 0
OneLog f s =
    (made : List Made) (s' : Served) → Told (message_answered f msg.GetFailoverLog s) made s'
    → (reply : Option VbReply) × (made ≡ (f.vb_or_status, call.Log, reply) ∷ []) × LogsAs f s s' reply

-- an answer with this log to a request with the opaque 0x0a0b0c0d has these bytes
abbrev pub LogsBytes : List LogEntry → List ℕ → Type 0
LogsBytes log bytes =
    (f : Frame) (s s' : Served) (r : VbReply) → IsOpened s → f.opaque ≡ 0x0a0b0c0d → r.answer ≡ answer.Logged log
    → Told (message_answered f msg.GetFailoverLog s) ((f.vb_or_status, call.Log, Some r) ∷ []) s' → s'.out ≡ s.out ++ bytes
