-- the states that a consumer obeys which takes a vBucket over
use Rattle.std.specs.Prelude.{◌≡◌, ℕ, true, List, [], ◌∷◌, Option, Some, None, Ok}
use Rattle.mcbp_frame.specs.declared.frame.Frame.{Frame}
use Rattle.mcbp_frame.specs.Frames.{first_frame}
use Rattle.mcbp_frame.specs.Spelling.{spelling}
use Rattle.mcbp_dcp.specs.declared.message.DcpMsg.TheVariants as msg
use Rattle.mcbp_dcp.specs.declared.shape.TheConstants.{SUCCESS}
use Rattle.mcbp_dcp.specs.DcpFrames.{dcp_frame}
use Rattle.takeover.specs.declared.take_over.TakeStep.{TakeStep}
use Rattle.takeover.specs.declared.take_over.TakeStep.TheVariants.{Pend, Own}
use Rattle.vb_events.specs.declared.event.EndReason.{EndReason}
use Rattle.vb_events.specs.declared.event.EndReason.TheVariants as reason
use Rattle.dcp_consumer.specs.Conduct.{Comes, EndsBy, IsMessage, Reads}
use Rattle.dcp_consumer.specs.Counting.{counted_bytes}
use Rattle.dcp_consumer.specs.Machine.{PlainConsumer, consumer_step, state_of}
use Rattle.dcp_consumer.specs.declared.handshake.ConsumerStep.{ConsumerStep}
use Rattle.dcp_consumer.specs.declared.handshake.ConsumerStep.TheVariants as step
use Rattle.dcp_consumer.specs.declared.handshake.Handshake.TheVariants as handshake
use Rattle.dcp_consumer.specs.declared.passive_stream.Passive.TheVariants as passive

-- what a consumer writes to answer the state with this opaque: Success, with the same opaque
abbrev pub state_answered : ℕ → List ℕ
state_answered opaque = spelling (dcp_frame (msg.StateAnswer SUCCESS) opaque 0)

-- ---- in other words

-- a node pends where it was told no state, and owns the branch right behind
abbrev pub IsNextOf : Option TakeStep → TakeStep → Type 0
IsNextOf last Pend = last ≡ None
IsNextOf last Own = last ≡ Some Pend

-- a consumer obeys the state of a message: its link takes the vBucket over, its stream was granted and goes on, and the state is in order: pending is the first one that the link is told, and active comes right behind it
abbrev pub Obeys : PlainConsumer → Frame → TakeStep → Type 0
Obeys c f take = (IsMessage c.handshake f × (c.handshake ≡ handshake.Streaming) × (c.dialed.takeover ≡ true)) × IsNextOf c.taking.last take × Reads f (msg.SetVbucketState (state_of take))

-- a consumer obeys the frame as no state
abbrev pub IsNoOrder : PlainConsumer → Frame → Type 0
IsNoOrder c f = (take : TakeStep) → Obeys c f take → ⊥

-- when a frame comes to which step: a state that is in order to its own, and a message is none of the protocol's only where it is no such state
abbrev pub ComesTo : PlainConsumer → Frame → ConsumerStep → Type 0
ComesTo c f (step.State take opaque) = Obeys c f take × (f.opaque ≡ opaque)
ComesTo c f (step.Passive passive.Protocol) = Comes c.dialed.buffer c.handshake c.asked f (step.Passive passive.Protocol) × IsNoOrder c f
ComesTo c f s = Comes c.dialed.buffer c.handshake c.asked f s

-- for which frames a link ends, and why: a state that is in order ends none
abbrev pub EndsAt : EndReason → PlainConsumer → Frame → Type 0
EndsAt reason.Protocol c f = EndsBy reason.Protocol c.dialed.buffer c.handshake c.asked f × IsNoOrder c f
EndsAt why c f = EndsBy why c.dialed.buffer c.handshake c.asked f

-- these bytes are one answer to a state: of magic 0x81 and opcode 0x5b, with this opaque, and with the status 0, alone
pub record IsStateAnswer (opaque : ℕ) (bytes : List ℕ) : Type 0 where
  pub frame : Frame
  pub spelled : bytes ≡ spelling frame
  pub magic : frame.magic ≡ 0x81
  pub opcode : frame.opcode ≡ 0x5b
  pub opaque_is : frame.opaque ≡ opaque
  pub status : frame.vb_or_status ≡ 0
  pub bare : (frame.datatype ≡ 0) × (frame.cas ≡ 0) × (frame.framing ≡ []) × (frame.extras ≡ []) × (frame.key ≡ []) × (frame.value ≡ [])
  pub read : Reads frame (msg.StateAnswer 0)

-- the state that the first bytes begin with counts with 25 bytes, has each consumer do this that obeys it then, and is answered with the other ones
abbrev pub BytesAreObeyed : TakeStep → List ℕ → List ℕ → Type 0
BytesAreObeyed take bytes answer =
    (f : Frame) × (first_frame bytes ≡ Some (Ok f)) × (counted_bytes (f ∷ []) ≡ 25)
    × ((c : PlainConsumer) → c.handshake ≡ handshake.Streaming → c.dialed.takeover ≡ true → IsNextOf c.taking.last take → consumer_step c f ≡ (record c { taking = record { last = Some take } }, step.State take f.opaque))
    × (state_answered f.opaque ≡ answer)
