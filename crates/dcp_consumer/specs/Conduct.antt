-- what a consumer makes of each frame, in the numbers of the protocol
use Rattle.std.specs.Prelude.{◌≡◌, ◌≢◌, ℕ, ◌<◌, ◌==◌, if◌then◌else◌, ◌⊎◌, List, [], ◌∷◌, Option, Some, None, Ok}
use Rattle.std.specs.Int.{w64, to_be_bytes}
use Rattle.mcbp_frame.specs.declared.frame.Frame.{Frame}
use Rattle.mcbp_frame.specs.Spelling.{spelling}
use Rattle.mcbp_dcp.specs.declared.message.DcpMsg.{DcpMsg}
use Rattle.mcbp_dcp.specs.declared.message.DcpMsg.TheVariants as msg
use Rattle.mcbp_dcp.specs.declared.message.StreamVerdict.{StreamVerdict}
use Rattle.mcbp_dcp.specs.declared.message.StreamVerdict.TheVariants as told
use Rattle.mcbp_dcp.specs.DcpLaws.{InRange}
use Rattle.mcbp_dcp.specs.Messages.{read_of}
use Rattle.vb_events.specs.declared.event.EndReason.{EndReason}
use Rattle.vb_events.specs.declared.event.EndReason.TheVariants as reason
use Rattle.vb_types.specs.declared.stream.StreamAsk.{StreamAsk}
use Rattle.dcp_consumer.specs.PassiveStreams.{call_of_message}
use Rattle.dcp_consumer.specs.Machine.{PlainConsumer, over_why, consumer_step, granted, again, ended_for}
use Rattle.dcp_consumer.specs.declared.handshake.Handshake.{Handshake}
use Rattle.dcp_consumer.specs.declared.handshake.Handshake.TheVariants as handshake
use Rattle.dcp_consumer.specs.declared.handshake.ConsumerStep.{ConsumerStep}
use Rattle.dcp_consumer.specs.declared.handshake.ConsumerStep.TheVariants as step
use Rattle.dcp_consumer.specs.declared.passive_stream.Passive.TheVariants as passive

-- the answer to the request with this opaque and this opcode; answers have the magic 0x81
abbrev pub AnswersTo : ℕ → ℕ → Frame → Type 0
AnswersTo opaque opcode f = (f.magic ≡ 0x81) × (f.opaque ≡ opaque) × (f.opcode ≡ opcode)

-- the answer that is waited for. OPEN has the opaque 1 and the opcode 0x50, and the CONTROLs have 0x5e: that for the buffer the opaque 2, and the two others 2 and 3, or 3 and 4 where there is a buffer.
-- The last STREAM_REQUEST has its opaque and 0x53
abbrev pub Awaits : ℕ → Handshake → ℕ → Frame → Type 0
Awaits buffer handshake.Opening asked f = AnswersTo 1 0x50 f
Awaits buffer handshake.Buffering asked f = AnswersTo 2 0x5e f
Awaits buffer handshake.SyncWrites asked f = AnswersTo (if buffer == 0 then 2 else 3) 0x5e f
Awaits buffer handshake.Naming asked f = AnswersTo (if buffer == 0 then 3 else 4) 0x5e f
Awaits buffer handshake.Asking asked f = AnswersTo asked 0x53 f
Awaits buffer other asked f = ⊥

-- the opaque and the opcode of the answer that is waited for, if any is
abbrev pub awaited : ℕ → Handshake → ℕ → Option (ℕ × ℕ)
awaited buffer handshake.Opening asked = Some (1, 0x50)
awaited buffer handshake.Buffering asked = Some (2, 0x5e)
awaited buffer handshake.SyncWrites asked = Some ((if buffer == 0 then 2 else 3), 0x5e)
awaited buffer handshake.Naming asked = Some ((if buffer == 0 then 3 else 4), 0x5e)
awaited buffer handshake.Asking asked = Some (asked, 0x53)
awaited buffer other asked = None

-- the opaque and the opcode that the answer to this request has
abbrev pub answer_numbers : Frame → Option (ℕ × ℕ)
answer_numbers f = Some (f.opaque, f.opcode)

-- an answer, of the magic 0x81, with that opaque and that opcode
abbrev pub IsAnswer : ℕ → Handshake → ℕ → Frame → Type 0
IsAnswer buffer h asked f = (f.magic ≡ 0x81) × (awaited buffer h asked ≡ Some (f.opaque, f.opcode))

-- a message of the producer, to a consumer whose link is not over
abbrev pub IsMessage : Handshake → Frame → Type 0
IsMessage h f = (f.magic ≢ 0x81) × (over_why h ≡ None)

-- the frame says this
abbrev pub Reads : Frame → DcpMsg → Type 0
Reads f m = read_of f ≡ Some (Ok m)

-- a message that a stream has: its end, or one that makes a call
abbrev pub IsOfStream : DcpMsg → Type 0
IsOfStream (msg.StreamEnd why) = Unit {0}
IsOfStream m = call_of_message m ≢ None

-- when a frame comes to which step that tells no state which is in order; the status 0 is Success and 0x23 is Rollback
abbrev pub Comes : ℕ → Handshake → ℕ → Frame → ConsumerStep → Type 0
Comes buffer h asked f step.Answered = Awaits buffer h asked f × (h ≢ handshake.Asking) × (f.vb_or_status ≡ 0)
Comes buffer h asked f (step.Adopt log) = (h ≡ handshake.Asking) × AnswersTo asked 0x53 f × Reads f (msg.StreamAnswer (told.Go log))
Comes buffer h asked f (step.Roll point) = (h ≡ handshake.Asking) × AnswersTo asked 0x53 f × Reads f (msg.StreamAnswer (told.Roll point))
Comes buffer h asked f (step.Over reason.Refused) = Awaits buffer h asked f × (f.vb_or_status ≢ 0) × (h ≡ handshake.Asking → f.vb_or_status ≢ 0x23)
Comes buffer h asked f (step.Over reason.Protocol) =
    (h ≡ handshake.Asking) × AnswersTo asked 0x53 f × ((f.vb_or_status ≡ 0) ⊎ (f.vb_or_status ≡ 0x23))
    × ((t : StreamVerdict) → Reads f (msg.StreamAnswer t) → ⊥)
Comes buffer h asked f (step.Over other) = ⊥
Comes buffer h asked f (step.Passive (passive.Call call)) =
    IsMessage h f × (h ≡ handshake.Streaming) × ((m : DcpMsg) × Reads f m × (call_of_message m ≡ Some call))
Comes buffer h asked f (step.Passive (passive.End reason.Done)) = IsMessage h f × (h ≡ handshake.Streaming) × Reads f (msg.StreamEnd 0)
Comes buffer h asked f (step.Passive (passive.End reason.State)) =
    IsMessage h f × (h ≡ handshake.Streaming) × ((why : ℕ) × (why ≢ 0) × Reads f (msg.StreamEnd why))
Comes buffer h asked f (step.Passive (passive.End other)) = ⊥
Comes buffer h asked f (step.Passive passive.Protocol) =
    IsMessage h f × (Reads f msg.Noop → ⊥) × (h ≡ handshake.Streaming → (m : DcpMsg) → Reads f m → IsOfStream m → ⊥)
Comes buffer h asked f (step.Noop opaque) = IsMessage h f × Reads f msg.Noop × (f.opaque ≡ opaque)
Comes buffer h asked f (step.State take opaque) = ⊥
Comes buffer h asked f step.Dropped = (over_why h ≢ None) ⊎ ((f.magic ≡ 0x81) × (Awaits buffer h asked f → ⊥))

-- OPEN is asked first, then the CONTROLs, and then the stream; the buffer is asked for exactly where it is not 0
abbrev pub IsNext : ℕ → Handshake → Handshake → Type 0
IsNext buffer handshake.Opening handshake.Buffering = buffer ≢ 0
IsNext buffer handshake.Opening handshake.SyncWrites = buffer ≡ 0
IsNext buffer handshake.Buffering handshake.SyncWrites = Unit {0}
IsNext buffer handshake.SyncWrites handshake.Naming = Unit {0}
IsNext buffer handshake.Naming handshake.Asking = Unit {0}
IsNext buffer h next = ⊥

-- the steps that end a link for a reason
abbrev pub Ends : EndReason → ConsumerStep → Type 0
Ends reason.Cut s = ⊥
Ends reason.Refused s = s ≡ step.Over reason.Refused
Ends reason.Protocol s = (s ≡ step.Over reason.Protocol) ⊎ (s ≡ step.Passive passive.Protocol)
Ends reason.Done s = s ≡ step.Passive (passive.End reason.Done)
Ends reason.State s = s ≡ step.Passive (passive.End reason.State)
Ends reason.Disk s = ⊥

-- For which frames a link ends that tell no state which is in order, and why. A status but 0 refuses; 0x23, Rollback, does not refuse a stream. A log or a point that cannot be read, and a message that no stream has or before one is granted,
-- is none of the protocol's, but that a NOOP may come at any time. The stream's end tells with 0 that all was sent, and with any other number that the producer's vBucket changed.
abbrev pub EndsBy : EndReason → ℕ → Handshake → ℕ → Frame → Type 0
EndsBy reason.Cut buffer h asked f = ⊥
EndsBy reason.Refused buffer h asked f = IsAnswer buffer h asked f × (f.vb_or_status ≢ 0) × (h ≡ handshake.Asking → f.vb_or_status ≢ 0x23)
EndsBy reason.Protocol buffer h asked f =
    ((h ≡ handshake.Asking) × IsAnswer buffer h asked f × ((f.vb_or_status ≡ 0) ⊎ (f.vb_or_status ≡ 0x23)) × ((t : StreamVerdict) → Reads f (msg.StreamAnswer t) → ⊥))
    ⊎ ((f.magic ≢ 0x81) × (Reads f msg.Noop → ⊥) × (h ≡ handshake.Streaming → (m : DcpMsg) → Reads f m → IsOfStream m → ⊥))
EndsBy reason.Done buffer h asked f = (f.magic ≢ 0x81) × (h ≡ handshake.Streaming) × Reads f (msg.StreamEnd 0)
EndsBy reason.State buffer h asked f = (f.magic ≢ 0x81) × (h ≡ handshake.Streaming) × ((why : ℕ) × (why ≢ 0) × Reads f (msg.StreamEnd why))
EndsBy reason.Disk buffer h asked f = ⊥

-- these bytes are one STREAM_REQUEST: of magic 0x80 and opcode 0x53, with this opaque, for this vBucket
pub record IsRequest (ask : StreamAsk) (n v : ℕ) (bytes : List ℕ) : Type 0 where
  pub frame : Frame
  pub spelled : bytes ≡ spelling frame
  pub magic : frame.magic ≡ 0x80
  pub opcode : frame.opcode ≡ 0x53
  pub opaque : frame.opaque ≡ n
  pub vb : frame.vb_or_status ≡ v
  pub read : InRange (msg.StreamRequest ask) → Reads frame (msg.StreamRequest ask)

-- a consumer has this seqno to acknowledge: its stream is granted and goes on, and the seqno is above the last one that it acknowledged
abbrev pub Acknowledges : PlainConsumer → ℕ → Type 0
Acknowledges c seq = (c.handshake ≡ handshake.Streaming) × (c.acked < seq)

-- these bytes are one SEQNO_ACKNOWLEDGED: of magic 0x80 and opcode 0x61, with this opaque, for this vBucket, and with this seqno, in eight bytes of extras, alone
pub record IsAcknowledgement (seq n v : ℕ) (bytes : List ℕ) : Type 0 where
  pub frame : Frame
  pub spelled : bytes ≡ spelling frame
  pub magic : frame.magic ≡ 0x80
  pub opcode : frame.opcode ≡ 0x61
  pub opaque : frame.opaque ≡ n
  pub vb : frame.vb_or_status ≡ v
  pub extras : frame.extras ≡ to_be_bytes w64 seq
  pub bare : (frame.datatype ≡ 0) × (frame.cas ≡ 0) × (frame.framing ≡ []) × (frame.key ≡ []) × (frame.value ≡ [])
  pub read : Reads frame (msg.SeqnoAcknowledged seq)

-- all of a consumer is as it was, but that it acknowledged up to this seqno
abbrev pub HasAcknowledged : ℕ → PlainConsumer → PlainConsumer → Type 0
HasAcknowledged seq c after = (after.dialed ≡ c.dialed) × (after.handshake ≡ c.handshake) × (after.asked ≡ c.asked) × (after.acked ≡ seq) × (after.taking ≡ c.taking)

-- whatever else becomes of a consumer, by frames, by the grant, by one more request and by its end, leaves what it acknowledged
pub record LeavesAcknowledged (c : PlainConsumer) : Type 0 where
  pub fed : (f : Frame) → (consumer_step c f).0.acked ≡ c.acked
  pub grant : (granted c).acked ≡ c.acked
  pub back : (ask : StreamAsk) → (again ask c).0.acked ≡ c.acked
  pub end : (why : EndReason) → (ended_for why c).acked ≡ c.acked

-- the acknowledgement of the seqno 0x1112131415161718, with the opaque 4 and for the vBucket 0x0102, byte by byte
abbrev pub acknowledgement_bytes : List ℕ
acknowledgement_bytes =
    0x80 ∷ 0x61 ∷ 0x00 ∷ 0x00 ∷ 0x08 ∷ 0x00 ∷ 0x01 ∷ 0x02 ∷ 0x00 ∷ 0x00 ∷ 0x00 ∷ 0x08 ∷ 0x00 ∷ 0x00 ∷ 0x00 ∷ 0x04
    ∷ 0x00 ∷ 0x00 ∷ 0x00 ∷ 0x00 ∷ 0x00 ∷ 0x00 ∷ 0x00 ∷ 0x00 ∷ 0x11 ∷ 0x12 ∷ 0x13 ∷ 0x14 ∷ 0x15 ∷ 0x16 ∷ 0x17 ∷ 0x18 ∷ []
