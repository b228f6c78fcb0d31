-- what a consumer makes of the frames that come
use Rattle.std.specs.Prelude.{◌≡◌, ℕ, ◌+◌, ◌==◌, ◌&&◌, ◌||◌, ◌-◌, ◌^◌, nat_lt, Bool, true, false, if◌then◌else◌, List, [], Option, Some, None, is_some, Result, Ok, Err}
use Rattle.mcbp_frame.specs.declared.frame.Frame.{Frame}
use Rattle.mcbp_frame.specs.declared.frame.TheConstants.{RESPONSE}
use Rattle.mcbp_frame.specs.Spelling.{spelling}
use Rattle.mcbp_dcp.specs.declared.message.DcpMsg.{DcpMsg}
use Rattle.mcbp_dcp.specs.declared.message.DcpMsg.TheVariants as msg
use Rattle.mcbp_dcp.specs.declared.message.DcpFault.{DcpFault}
use Rattle.mcbp_dcp.specs.declared.message.StreamVerdict.{StreamVerdict}
use Rattle.mcbp_dcp.specs.declared.message.StreamVerdict.TheVariants as verdict
use Rattle.mcbp_dcp.specs.declared.shape.TheConstants.{SUCCESS, ROLLBACK}
use Rattle.mcbp_dcp.specs.DcpFrames.{dcp_frame}
use Rattle.mcbp_dcp.specs.Messages.{read_of}
use Rattle.vb_events.specs.declared.event.EndReason.{EndReason}
use Rattle.vb_events.specs.declared.event.EndReason.TheVariants as reason
use Rattle.vb_types.specs.declared.role.Role.{Role}
use Rattle.vb_types.specs.declared.role.Role.TheVariants as role
use Rattle.vb_types.specs.declared.stream.StreamAsk.{StreamAsk}
use Rattle.takeover.specs.declared.take_over.TakeOver.{TakeOver}
use Rattle.takeover.specs.declared.take_over.TakeStep.{TakeStep}
use Rattle.takeover.specs.declared.take_over.TakeStep.TheVariants.{Pend, Own}
use Rattle.takeover.specs.TakingOver.{new_take_over, step_at, told}
use Rattle.dcp_consumer.specs.PassiveStreams.{passive_read}
use Rattle.dcp_consumer.specs.Dialing.{flagged, stream_opaque}
use Rattle.dcp_consumer.specs.declared.handshake.Handshake.{Handshake}
use Rattle.dcp_consumer.specs.declared.handshake.Handshake.TheVariants as handshake
use Rattle.dcp_consumer.specs.declared.handshake.ConsumerStep.{ConsumerStep}
use Rattle.dcp_consumer.specs.declared.handshake.ConsumerStep.TheVariants as step
use Rattle.dcp_consumer.specs.declared.handshake.Dialed.{Dialed}
use Rattle.dcp_consumer.specs.declared.passive_stream.Passive.{Passive}
use Rattle.dcp_consumer.specs.declared.passive_stream.Passive.TheVariants as passive

-- a consumer: the link that it is of, what it asked last, the opaque of its last request for a stream, the last seqno that it acknowledged on the link, 0 for none, and what a state had it do last that it was told
pub record PlainConsumer : Type 0 where
  pub dialed : Dialed
  pub handshake : Handshake
  pub asked : ℕ
  pub acked : ℕ
  pub taking : TakeOver

-- a consumer as it is kept; it is spent once memory was short for it
pub record KeptConsumer : Type 0 where
  pub plain : PlainConsumer
  pub spent : Bool

-- a consumer that has dialed waits for the answer to OPEN
abbrev pub dialed_consumer : Dialed → PlainConsumer
dialed_consumer dialed = record { dialed = dialed; handshake = handshake.Opening; asked = stream_opaque dialed.buffer; acked = 0; taking = new_take_over }

-- the consumer with this handshake
abbrev pub with_handshake : PlainConsumer → Handshake → PlainConsumer
with_handshake c h = record c { handshake = h }

-- over for this reason
abbrev pub ended_for : EndReason → PlainConsumer → PlainConsumer
ended_for why c = with_handshake c (handshake.Over why)

-- why it is over, if it is
abbrev pub over_why : Handshake → Option EndReason
over_why (handshake.Over why) = Some why
over_why other = None

-- a frame with this opaque and this opcode
abbrev pub answers : ℕ → ℕ → Frame → Bool
answers opaque opcode f = f.opaque == opaque && f.opcode == opcode

-- the answer that is waited for: to OPEN, to one of the CONTROLs, of which the last two stand right before the first request for a stream, or to the last such request
abbrev pub is_awaited : ℕ → Handshake → ℕ → Frame → Bool
is_awaited buffer handshake.Opening asked f = answers 1 0x50 f
is_awaited buffer handshake.Buffering asked f = answers 2 0x5e f
is_awaited buffer handshake.SyncWrites asked f = answers (stream_opaque buffer - 2) 0x5e f
is_awaited buffer handshake.Naming asked f = answers (stream_opaque buffer - 1) 0x5e f
is_awaited buffer handshake.Asking asked f = answers asked 0x53 f
is_awaited buffer other asked f = false

-- the answer to OPEN or CONTROL: any status but Success ends the link
abbrev pub status_step : ℕ → ConsumerStep
status_step code = if code == SUCCESS then step.Answered else step.Over reason.Refused

-- what a request for a stream was answered with: a log to go on with, a point to go back to, or a refusal
abbrev pub verdict_step : StreamVerdict → ConsumerStep
verdict_step (verdict.Go log) = step.Adopt log
verdict_step (verdict.Roll point) = step.Roll point
verdict_step (verdict.Refused code) = step.Over reason.Refused

-- an answer that is not what its row is: a log or a point cannot be read, and any other status is a refusal
abbrev pub misread_reason : ℕ → EndReason
misread_reason code = if code == SUCCESS || code == ROLLBACK then reason.Protocol else reason.Refused

-- what a request for a stream was answered with, in what was read of the answer, or why the link is over
abbrev pub answered_with : ℕ → Option (Result DcpMsg DcpFault) → Result StreamVerdict EndReason
answered_with code (Some (Ok (msg.StreamAnswer told))) = Ok told
answered_with code other = Err (misread_reason code)

-- the link goes on with what was told, or is over
abbrev pub stream_step : Result StreamVerdict EndReason → ConsumerStep
stream_step (Ok told) = verdict_step told
stream_step (Err why) = step.Over why

-- an answer that was waited for: that of the stream, or a status
abbrev pub answer_step : Handshake → Frame → ConsumerStep
answer_step handshake.Asking f = stream_step (answered_with f.vb_or_status (read_of f))
answer_step other f = status_step f.vb_or_status

-- an answer; one that nothing waits for is dropped
abbrev pub response_step : ℕ → Handshake → ℕ → Frame → ConsumerStep
response_step buffer h asked f = if is_awaited buffer h asked f then answer_step h f else step.Dropped

-- a NOOP was read
abbrev pub is_noop : Option (Result DcpMsg DcpFault) → Bool
is_noop (Some (Ok msg.Noop)) = true
is_noop other = false

-- a message that is no NOOP, by what was read of it; there is none before the stream was granted
abbrev pub passive_step : Handshake → Option (Result DcpMsg DcpFault) → ConsumerStep
passive_step handshake.Streaming read = step.Passive (passive_read read)
passive_step other read = step.Passive passive.Protocol

-- a message; a NOOP is to be answered with its opaque, whatever is waited for
abbrev pub message_step : Handshake → Frame → ConsumerStep
message_step h f = if is_noop (read_of f) then step.Noop f.opaque else passive_step h (read_of f)

-- what a frame comes to that tells no state which is in order; once the link is over, nothing is taken
unfoldable pub unstated_step : PlainConsumer → Frame → ConsumerStep
unstated_step c f =
    if is_some (over_why c.handshake) then step.Dropped
    else if f.magic == RESPONSE then response_step c.dialed.buffer c.handshake c.asked f
    else message_step c.handshake f

-- the stream was granted, and is not over
abbrev pub is_streaming : Handshake → Bool
is_streaming handshake.Streaming = true
is_streaming other = false

-- the state that was read, if one was
abbrev pub state_in : Option (Result DcpMsg DcpFault) → Option Role
state_in (Some (Ok (msg.SetVbucketState role))) = Some role
state_in other = None

-- what a state has a consumer do, where states are taken, one was read, and it is in order
abbrev pub state_due : Option TakeOver → Option Role → Option TakeStep
state_due (Some t) (Some role) = step_at t.last role
state_due taking read = None

-- a consumer takes states once its stream was granted, on a link that takes the vBucket over
abbrev pub takes_states : PlainConsumer → Bool
takes_states c = is_streaming c.handshake && c.dialed.takeover

-- how far it is that takes states
abbrev pub taking_of : PlainConsumer → Option TakeOver
taking_of c = if takes_states c then Some c.taking else None

-- what the state of a frame has the consumer do, if it is no answer, and a state that is taken and in order
abbrev pub state_told : PlainConsumer → Frame → Option TakeStep
state_told c f = if f.magic == RESPONSE then None else state_due (taking_of c) (state_in (read_of f))

-- a state that is in order, or what else the frame comes to
abbrev pub state_or : ℕ → Option TakeStep → ConsumerStep → ConsumerStep
state_or opaque None other = other
state_or opaque (Some take) other = step.State take opaque

-- what a frame comes to: a state that is in order is to be obeyed, and answered with its opaque
unfoldable pub frame_step : PlainConsumer → Frame → ConsumerStep
frame_step c f = state_or f.opaque (state_told c f) (unstated_step c f)

-- OPEN or CONTROL was answered, and the next answer is waited for; a buffer of 0 was not asked for
abbrev pub answered : ℕ → Handshake → Handshake
answered buffer handshake.Opening = if buffer == 0 then handshake.SyncWrites else handshake.Buffering
answered buffer handshake.Buffering = handshake.SyncWrites
answered buffer handshake.SyncWrites = handshake.Naming
answered buffer handshake.Naming = handshake.Asking
answered buffer other = other

-- the end of the stream, and a message that is none of a stream, end the link
abbrev pub passive_moved : Passive → Handshake → Handshake
passive_moved (passive.Call c) h = h
passive_moved (passive.End why) h = handshake.Over why
passive_moved passive.Protocol h = handshake.Over reason.Protocol

-- The handshake after a step. One that asks for a call leaves it: a request for a stream stays the last that was asked until `granted` or `again`.
abbrev pub moved_by : ℕ → ConsumerStep → Handshake → Handshake
moved_by buffer step.Answered h = answered buffer h
moved_by buffer (step.Over why) h = handshake.Over why
moved_by buffer (step.Passive p) h = passive_moved p h
moved_by buffer other h = h

-- the state that asks for a step of a takeover
abbrev pub state_of : TakeStep → Role
state_of Pend = role.Pending
state_of Own = role.Active

-- how far a consumer is in a takeover after a step: it was told the state that it obeys
abbrev pub taking_after : ConsumerStep → TakeOver → TakeOver
taking_after (step.State take opaque) t = told (state_of take) t
taking_after other t = t

-- the consumer after a step
abbrev pub stepped : ConsumerStep → PlainConsumer → PlainConsumer
stepped s c = record c { handshake = moved_by c.dialed.buffer s c.handshake; taking = taking_after s c.taking }

-- a consumer takes a frame
abbrev pub consumer_step : PlainConsumer → Frame → PlainConsumer × ConsumerStep
consumer_step c f = (stepped (frame_step c f) c, frame_step c f)

-- a log is told, or a point to go back to, to a consumer that asks for a stream alone, and it goes on asking
abbrev pub IsDue : ConsumerStep → PlainConsumer → Type 0
IsDue (step.Adopt log) c = c.handshake ≡ handshake.Asking
IsDue (step.Roll point) c = c.handshake ≡ handshake.Asking
IsDue other c = Unit {0}

-- the stream is granted to a consumer that asks for it
abbrev pub streaming : Handshake → Handshake
streaming handshake.Asking = handshake.Streaming
streaming other = other

-- the vBucket took over the log that was told
abbrev pub granted : PlainConsumer → PlainConsumer
granted c = with_handshake c (streaming c.handshake)

-- one more request for a stream, with the next opaque
abbrev pub request_again : StreamAsk → PlainConsumer → PlainConsumer × List ℕ
request_again ask c = (record c { asked = c.asked + 1 }, spelling (dcp_frame (msg.StreamRequest (flagged c.dialed.takeover ask)) (c.asked + 1) c.dialed.vb))

-- while it asks for a stream, a consumer asks again; where no opaque is left, the link is over
abbrev pub again_by : Handshake → StreamAsk → PlainConsumer → PlainConsumer × List ℕ
again_by handshake.Asking ask c = if nat_lt c.asked (2 ^ 32 - 1) then request_again ask c else (ended_for reason.Protocol c, [])
again_by other ask c = (c, [])

-- the vBucket went back, and asks for this now: what becomes of the consumer, and what it writes
abbrev pub again : StreamAsk → PlainConsumer → PlainConsumer × List ℕ
again ask c = again_by c.handshake ask c

-- a consumer has something to acknowledge: its stream was granted, and the seqno is above the last one that it acknowledged
abbrev pub may_acknowledge : ℕ → PlainConsumer → Bool
may_acknowledge seq c = is_streaming c.handshake && nat_lt c.acked seq

-- it acknowledges all up to a seqno, with the opaque of its stream
abbrev pub acknowledged : ℕ → PlainConsumer → PlainConsumer × List ℕ
acknowledged seq c = (record c { acked = seq }, spelling (dcp_frame (msg.SeqnoAcknowledged seq) c.asked c.dialed.vb))
