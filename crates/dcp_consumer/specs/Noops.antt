-- how a consumer answers a NOOP
use Rattle.std.specs.Prelude.{◌≡◌, ◌≢◌, ℕ, List, [], Some, None, Ok}
use Rattle.mcbp_frame.specs.declared.frame.Frame.{Frame}
use Rattle.mcbp_frame.specs.Frames.{first_frame}
use Rattle.mcbp_frame.specs.Spelling.{spelling}
use Rattle.mcbp_dcp.specs.declared.message.DcpMsg.TheVariants as msg
use Rattle.mcbp_dcp.specs.declared.shape.TheConstants.{SUCCESS}
use Rattle.mcbp_dcp.specs.DcpFrames.{dcp_frame}
use Rattle.dcp_consumer.specs.Conduct.{Reads}
use Rattle.dcp_consumer.specs.Machine.{PlainConsumer, over_why, consumer_step}
use Rattle.dcp_consumer.specs.declared.handshake.ConsumerStep.TheVariants as step

-- what a consumer writes to answer the NOOP with this opaque: Success, with the same opaque
abbrev pub noop_answered : ℕ → List ℕ
noop_answered opaque = spelling (dcp_frame (msg.NoopAnswer SUCCESS) opaque 0)

-- ---- in other words

-- a NOOP: of opcode 0x5c, no answer, and a header alone
abbrev pub IsNoop : Frame → Type 0
IsNoop f = (f.magic ≢ 0x81) × (f.opcode ≡ 0x5c) × (f.framing ≡ []) × (f.extras ≡ []) × (f.key ≡ []) × (f.value ≡ [])

-- these bytes are one answer to a NOOP: of magic 0x81 and opcode 0x5c, with this opaque, and with the status 0, alone
pub record IsNoopAnswer (opaque : ℕ) (bytes : List ℕ) : Type 0 where
  pub frame : Frame
  pub spelled : bytes ≡ spelling frame
  pub magic : frame.magic ≡ 0x81
  pub opcode : frame.opcode ≡ 0x5c
  pub opaque_is : frame.opaque ≡ opaque
  pub status : frame.vb_or_status ≡ 0
  pub bare : (frame.datatype ≡ 0) × (frame.cas ≡ 0) × (frame.framing ≡ []) × (frame.extras ≡ []) × (frame.key ≡ []) × (frame.value ≡ [])
  pub read : Reads frame (msg.NoopAnswer 0)

-- the message that the first bytes begin with is answered with the other ones, by each consumer whose link is not over, and nothing of the consumer changes
abbrev pub BytesAreAnswered : List ℕ → List ℕ → Type 0
BytesAreAnswered bytes answer =
    (f : Frame) × (first_frame bytes ≡ Some (Ok f)) × ((c : PlainConsumer) → over_why c.handshake ≡ None → consumer_step c f ≡ (c, step.Noop f.opaque))
    × (noop_answered f.opaque ≡ answer)
