-- which bytes flow control counts, and how a consumer acknowledges them
use Rattle.std.specs.Prelude.{◌≡◌, ◌≢◌, ◌⊎◌, ℕ, ◌-◌, ◌^◌, ◌==◌, ◌&&◌, ◌||◌, Bool, not, if◌then◌else◌, min, List, [], ◌∷◌, length}
use Rattle.std.specs.Int.{w32, to_be_bytes}
use Rattle.std.specs.List.{sum_by}
use Rattle.mcbp_frame.specs.declared.frame.Frame.{Frame}
use Rattle.mcbp_frame.specs.declared.frame.TheConstants.{RESPONSE}
use Rattle.mcbp_frame.specs.Spelling.{spelling}
use Rattle.mcbp_dcp.specs.declared.message.DcpMsg.{DcpMsg}
use Rattle.mcbp_dcp.specs.declared.message.DcpMsg.TheVariants as msg
use Rattle.mcbp_dcp.specs.DcpFrames.{dcp_frame}
use Rattle.dcp_consumer.specs.Machine.{PlainConsumer}
use Rattle.dcp_consumer.specs.Conduct.{Reads}

-- the opcode of a message of a stream: STREAM_END, SNAPSHOT_MARKER, MUTATION, DELETION, SET_VBUCKET_STATE, PREPARE, COMMIT or ABORT
abbrev pub is_stream_opcode : ℕ → Bool
is_stream_opcode n = n == 0x55 || n == 0x56 || n == 0x57 || n == 0x58 || n == 0x5b || n == 0x60 || n == 0x62 || n == 0x63

-- the bytes of a stream's messages count, and those of no answer
abbrev pub is_counted : Frame → Bool
is_counted f = not (f.magic == RESPONSE) && is_stream_opcode f.opcode

-- how many bytes of a frame count: the whole frame, or none
abbrev pub counted_len : Frame → ℕ
counted_len f = if is_counted f then length (spelling f) else 0

-- how many bytes of these frames count
unfoldable pub counted_bytes : List Frame → ℕ
counted_bytes frames = sum_by counted_len frames

-- what a consumer writes to acknowledge so many bytes, or the most that the message can hold, with the opaque of its stream; it names the vBucket 0
abbrev pub bytes_acknowledged : ℕ → PlainConsumer → List ℕ
bytes_acknowledged n c = spelling (dcp_frame (msg.BufferAcknowledgement (min n (2 ^ 32 - 1))) c.asked 0)

-- ---- in other words

-- the same opcodes, one by one
abbrev pub IsStreamOpcode : ℕ → Type 0
IsStreamOpcode n =
    (n ≡ 0x55) ⊎ ((n ≡ 0x56) ⊎ ((n ≡ 0x57) ⊎ ((n ≡ 0x58) ⊎ ((n ≡ 0x5b) ⊎ ((n ≡ 0x60) ⊎ ((n ≡ 0x62) ⊎ (n ≡ 0x63)))))))

-- a frame counts; an answer has the magic 0x81
abbrev pub Counts : Frame → Type 0
Counts f = (f.magic ≢ 0x81) × IsStreamOpcode f.opcode

-- the messages that count, of those that a consumer and its producer send
abbrev pub CountsAsMessage : DcpMsg → Type 0
CountsAsMessage (msg.StreamEnd reason) = Unit {0}
CountsAsMessage (msg.SnapshotMarker start end flags) = Unit {0}
CountsAsMessage (msg.Mutation change) = Unit {0}
CountsAsMessage (msg.Deletion change) = Unit {0}
CountsAsMessage (msg.SetVbucketState role) = Unit {0}
CountsAsMessage (msg.Prepare change) = Unit {0}
CountsAsMessage (msg.Commit change) = Unit {0}
CountsAsMessage (msg.Abort change) = Unit {0}
CountsAsMessage other = ⊥

-- these bytes are one BUFFER_ACKNOWLEDGEMENT: of magic 0x80 and opcode 0x5d, with this opaque, for the vBucket 0, and with this number, in four bytes of extras, alone
pub record IsBufferAcknowledgement (n opaque : ℕ) (bytes : List ℕ) : Type 0 where
  pub frame : Frame
  pub spelled : bytes ≡ spelling frame
  pub magic : frame.magic ≡ 0x80
  pub opcode : frame.opcode ≡ 0x5d
  pub opaque_is : frame.opaque ≡ opaque
  pub vb : frame.vb_or_status ≡ 0
  pub extras : frame.extras ≡ to_be_bytes w32 n
  pub bare : (frame.datatype ≡ 0) × (frame.cas ≡ 0) × (frame.framing ≡ []) × (frame.key ≡ []) × (frame.value ≡ [])
  pub read : Reads frame (msg.BufferAcknowledgement n)

-- the acknowledgement with the opaque 5 of the bytes whose number these four bytes are, byte by byte
abbrev pub buffer_acknowledgement_bytes : List ℕ → List ℕ
buffer_acknowledgement_bytes number =
    0x80 ∷ 0x5d ∷ 0x00 ∷ 0x00 ∷ 0x04 ∷ 0x00 ∷ 0x00 ∷ 0x00 ∷ 0x00 ∷ 0x00 ∷ 0x00 ∷ 0x04 ∷ 0x00 ∷ 0x00 ∷ 0x00 ∷ 0x05
    ∷ 0x00 ∷ 0x00 ∷ 0x00 ∷ 0x00 ∷ 0x00 ∷ 0x00 ∷ 0x00 ∷ 0x00 ∷ number
