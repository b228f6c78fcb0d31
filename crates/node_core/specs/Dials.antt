-- the dial of a vBucket: what its consumer's steps ask for, as jobs over the node's vBuckets and their journals
use Rattle.std.specs.Prelude.{ℕ, ◌==◌, ◌||◌, Bool, true, false, if◌then◌else◌, List, [], ◌∷◌, ◌++◌, map, Option, Some, None, is_some}
use Rattle.mcbp_frame.specs.declared.frame.Frame.{Frame}
use Rattle.mcbp_frame.specs.declared.frame.FrameFault.{FrameFault}
use Rattle.mcbp_frame.specs.Cutting.{front_fault, frames_in, left_of}
use Rattle.vb_types.specs.declared.change.Change.{Change}
use Rattle.vb_events.specs.declared.event.Event.{Event}
use Rattle.vb_events.specs.declared.event.Event.TheVariants as event
use Rattle.vb_events.specs.declared.event.EndReason.{EndReason}
use Rattle.vb_events.specs.declared.event.EndReason.TheVariants as reason
use Rattle.vb_events.specs.declared.event.StreamName.TheVariants as name
use Rattle.vb_types.specs.declared.role.LogEntry.{LogEntry}
use Rattle.vb_types.specs.declared.role.Role.{Role}
use Rattle.vb_types.specs.declared.role.Role.TheVariants as role
use Rattle.vb_types.specs.declared.stream.StreamAsk.{StreamAsk}
use Rattle.vb_calls.specs.Flushes.{role_job, roll_job}
use Rattle.vb_calls.specs.Jobs.{Job, Ended, bind_job, each_job, lift}
use Rattle.vb_calls.specs.Programs.{Prog, Done, Call}
use Rattle.vb_calls.specs.declared.journals.Rolled.{Rolled}
use Rattle.vb_calls.specs.declared.journals.Rolled.TheVariants as rolled
use Rattle.vb_calls.specs.declared.journals.Wrote.{Wrote}
use Rattle.vb_calls.specs.declared.journals.Wrote.TheVariants as wrote
use Rattle.vb_calls.specs.declared.calls.VbCall.{VbCall}
use Rattle.vb_calls.specs.declared.calls.VbCall.TheVariants as call
use Rattle.vb_calls.specs.declared.calls.VbAnswer.{VbAnswer}
use Rattle.vb_calls.specs.declared.calls.VbAnswer.TheVariants as answer
use Rattle.vb_calls.specs.declared.calls.VbReply.{VbReply}
use Rattle.dcp_consumer.specs.declared.handshake.ConsumerStep.{ConsumerStep}
use Rattle.dcp_consumer.specs.declared.handshake.ConsumerStep.TheVariants as step
use Rattle.dcp_consumer.specs.declared.handshake.Dialed.{Dialed}
use Rattle.dcp_consumer.specs.declared.passive_stream.Passive.{Passive}
use Rattle.dcp_consumer.specs.declared.passive_stream.Passive.TheVariants as passive
use Rattle.dcp_consumer.specs.Counting.{counted_bytes, bytes_acknowledged}
use Rattle.dcp_consumer.specs.Noops.{noop_answered}
use Rattle.dcp_consumer.specs.States.{state_answered}
use Rattle.takeover.specs.declared.take_over.TakeStep.{TakeStep}
use Rattle.takeover.specs.declared.take_over.TakeStep.TheVariants.{Pend, Own}
use Rattle.dcp_consumer.specs.Machine.{PlainConsumer, dialed_consumer, over_why, ended_for, granted, again, consumer_step, is_streaming, may_acknowledge, acknowledged}
use Rattle.node_core.specs.Calls.{named_ask, own_lines}

-- a dial: the bytes that came and are no whole frame yet, and the consumer of the link
pub record PlainDial : Type 0 where
  pub heard : List ℕ
  pub consumer : PlainConsumer

-- a dial as it is kept; it is spent once memory was short for it
pub record KeptDial : Type 0 where
  pub plain : PlainDial
  pub spent : Bool

-- a new dial
abbrev pub new_dial : Dialed → PlainDial
new_dial dialed = record { heard = []; consumer = dialed_consumer dialed }

-- whether the link is over
abbrev pub is_over : PlainDial → Bool
is_over dial = is_some (over_why dial.consumer.handshake)

-- what a producer's bytes come to: the dial after them, the lines that tell of them, and the bytes for the producer
pub record DialResult : Type 0 where
  pub dial : PlainDial
  pub events : List Event
  pub out : List ℕ

-- a dial of which nothing is told yet
abbrev pub untold : PlainDial → DialResult
untold dial = record { dial = dial; events = []; out = [] }

-- with this consumer, and nothing new told
abbrev pub with_consumer : DialResult → PlainConsumer → DialResult
with_consumer s c = record s { dial = record s.dial { consumer = c } }

-- with one more line
abbrev pub with_line : DialResult → Event → DialResult
with_line s line = record s { events = s.events ++ line ∷ [] }

-- the link is over
abbrev pub over_for : EndReason → DialResult → DialResult
over_for why s = with_consumer s (ended_for why s.dial.consumer)

-- the line of a log that was taken over
abbrev pub adopted_line : Dialed → List LogEntry → Event
adopted_line dialed log = event.Adopted dialed.node dialed.vb log

-- the producer's failover log was taken over: the stream is granted, and a line tells of it
abbrev pub granted_with : List LogEntry → DialResult → DialResult
granted_with log s = with_line (with_consumer s (granted s.dial.consumer)) (adopted_line s.dial.consumer.dialed log)

-- the answer that a call was made
abbrev pub is_done_answer : VbAnswer → Bool
is_done_answer answer.Done = true
is_done_answer other = false

-- there is such a vBucket, and it made the call
abbrev pub is_done : Option VbReply → Bool
is_done None = false
is_done (Some reply) = is_done_answer reply.answer

-- the vBucket took the log over, or the link is over
abbrev pub adopt_result : List LogEntry → DialResult → Option VbReply → DialResult
adopt_result log s reply = if is_done reply then granted_with log s else over_for reason.Protocol s

-- the line of an acknowledgement: all up to a seqno, where all up to `saved` is written down
abbrev pub acknowledged_line : Dialed → ℕ → ℕ → Event
acknowledged_line dialed seq saved = event.Acknowledged (name.Link dialed.link) dialed.node dialed.vb seq saved

-- the consumer acknowledged all up to a seqno, and a line tells of it
abbrev pub acknowledged_result : ℕ → DialResult → ℕ → DialResult
acknowledged_result seq s saved = record {
  dial = record s.dial { consumer = (acknowledged seq s.dial.consumer).0 };
  events = s.events ++ acknowledged_line s.dial.consumer.dialed seq saved ∷ [];
  out = s.out ++ (acknowledged seq s.dial.consumer).1;
}

-- the seqno that a vBucket may acknowledge, 0 for none, and the one up to which it has written all down, where it says so
abbrev pub dues_in : VbAnswer → Option (ℕ × ℕ)
dues_in (answer.Dues seq saved) = Some (seq, saved)
dues_in other = None

-- the same of a reply
abbrev pub dues_of_reply : Option VbReply → Option (ℕ × ℕ)
dues_of_reply None = None
dues_of_reply (Some reply) = dues_in reply.answer

-- what is due is acknowledged where it is above the last one; the line tells up to where the vBucket has written all down, by the same reply
abbrev pub due_met : DialResult → Option (ℕ × ℕ) → DialResult
due_met s None = s
due_met s (Some (seq, saved)) = if may_acknowledge seq s.dial.consumer then acknowledged_result seq s saved else s

-- while its stream is granted, the vBucket is asked what it may acknowledge
unfoldable pub due_requested : DialResult → Prog DialResult
due_requested s = if is_streaming s.dial.consumer.handshake then Call s.dial.consumer.dialed.vb call.Due (λ reply. Done (due_met s (dues_of_reply reply))) else Done s

-- the vBucket is to take the producer's failover log over
unfoldable pub go_on_with : List LogEntry → DialResult → Prog DialResult
go_on_with log s = Call s.dial.consumer.dialed.vb (call.Adopt log) (λ reply. due_requested (adopt_result log s reply))

-- what a vBucket asks for, where there is one that follows
abbrev pub follower_ask : Option VbReply → Option StreamAsk
follower_ask None = None
follower_ask (Some reply) = named_ask reply.answer

-- the consumer asked again, with these bytes, or is over
abbrev pub again_with : DialResult → PlainConsumer × List ℕ → DialResult
again_with s (c, bytes) = record (with_consumer s c) { out = s.out ++ bytes }

-- the consumer asks for a stream again; where there is no vBucket that follows, the link is over
abbrev pub again_result : DialResult → Option StreamAsk → DialResult
again_result s None = over_for reason.Protocol s
again_result s (Some ask) = again_with s (again ask s.dial.consumer)

-- the vBucket names what it asks for now
abbrev pub requested_once_more : DialResult → Prog DialResult
requested_once_more s = Call s.dial.consumer.dialed.vb call.Ask (λ reply. Done (again_result s (follower_ask reply)))

-- the line of a rollback
abbrev pub rolled_line : Dialed → ℕ → ℕ → Event
rolled_line dialed point to = event.Rolled dialed.node dialed.vb point to

-- a line tells of the rollback, and the vBucket asks again; where it was refused, or could not be read or written down, the link is over
abbrev pub rolled_back : ℕ → DialResult → Rolled → Prog DialResult
rolled_back point s (rolled.To to) = requested_once_more (with_line s (rolled_line s.dial.consumer.dialed point to))
rolled_back point s (rolled.Refused st) = Done (over_for reason.Protocol s)
rolled_back point s rolled.Closed = Done (over_for reason.Disk s)
rolled_back point s rolled.DiskFailed = Done (over_for reason.Disk s)
rolled_back point s (rolled.Damaged place) = Done (over_for reason.Disk s)

-- the vBucket is sent back to a point: it goes to the greatest complete point of its journal up to there
unfoldable pub roll_back : ℕ → DialResult → Job DialResult
roll_back point s = bind_job (roll_job s.dial.consumer.dialed.vb point) (λ came. lift (rolled_back point s came))

-- the line of a change that was taken
abbrev pub got_line : Dialed → Change → Event
got_line dialed c = event.Got dialed.node dialed.vb (name.Link dialed.link) c

-- what the vBucket took: the snapshot that begins, or changes; any other answer ends the link
abbrev pub taken_as : VbReply → DialResult → VbAnswer → DialResult
taken_as reply s (answer.Range ss se) = with_line s (event.Ranged s.dial.consumer.dialed.node s.dial.consumer.dialed.vb ss se)
taken_as reply s answer.Done = record s { events = s.events ++ map (got_line s.dial.consumer.dialed) reply.changes }
taken_as reply s other = over_for reason.Protocol s

-- where there is no such vBucket, the link is over
abbrev pub message_result : DialResult → Option VbReply → DialResult
message_result s None = over_for reason.Protocol s
message_result s (Some reply) = taken_as reply s reply.answer

-- the call of a message, and what is to be acknowledged then
unfoldable pub call_made : VbCall → DialResult → Prog DialResult
call_made c s = Call s.dial.consumer.dialed.vb c (λ reply. due_requested (message_result s reply))

-- what a message asks for
abbrev pub passive_made : Passive → DialResult → Prog DialResult
passive_made (passive.Call c) s = call_made c s
passive_made other s = Done s

-- a vBucket tells that it is to take over
abbrev pub is_pending_answer : VbAnswer → Bool
is_pending_answer (answer.Shown role.Pending uuid ss se at image) = true
is_pending_answer other = false

-- the same of a reply
abbrev pub is_pending : Option VbReply → Bool
is_pending None = false
is_pending (Some reply) = is_pending_answer reply.answer

-- the line of a role that the vBucket took
abbrev pub role_line : Dialed → Role → Event
role_line dialed new = event.Role dialed.node dialed.vb new

-- a state that the vBucket obeyed was answered
abbrev pub state_met : ℕ → DialResult → DialResult
state_met opaque s = record s { out = s.out ++ state_answered opaque }

-- the vBucket is to take over, of which a line tells unless it was to already; or it refused, and the link is over
abbrev pub pend_result : ℕ → Bool → DialResult → Option VbReply → DialResult
pend_result opaque before s reply =
    if is_done reply then state_met opaque (if before then s else with_line s (role_line s.dial.consumer.dialed role.Pending)) else over_for reason.Protocol s

-- the vBucket is to take over, which it was to already or was not
abbrev pub pend_called : ℕ → Bool → DialResult → Prog DialResult
pend_called opaque before s = Call s.dial.consumer.dialed.vb call.Pend (λ reply. Done (pend_result opaque before s reply))

-- the vBucket is asked whether it is to take over already, and then it is to
unfoldable pub pended : ℕ → DialResult → Prog DialResult
pended opaque s = Call s.dial.consumer.dialed.vb call.Show (λ shown. pend_called opaque (is_pending shown) s)

-- the vBucket took over: a line tells its role, and then one each change that it made at once
abbrev pub heir_told : VbReply → DialResult → DialResult
heir_told reply s =
    let told : DialResult = with_line s (role_line s.dial.consumer.dialed role.Active) in
    record told { events = told.events ++ own_lines s.dial.consumer.dialed.node s.dial.consumer.dialed.vb reply }

-- where its role could not be written down, the link is over
abbrev pub noted_for : Wrote → DialResult → DialResult
noted_for wrote.Stood s = s
noted_for wrote.NotAsked s = s
noted_for wrote.Closed s = over_for reason.Disk s
noted_for wrote.DiskFailed s = over_for reason.Disk s

-- a vBucket that took over did so whatever became of its record; one that refused ends the link
abbrev pub own_replied : ℕ → DialResult → Wrote → VbReply → DialResult
own_replied opaque s came reply = if is_done_answer reply.answer then noted_for came (state_met opaque (heir_told reply s)) else over_for reason.Protocol s

-- where there is no such vBucket, the link is over
abbrev pub own_result : ℕ → DialResult → Option VbReply → Wrote → DialResult
own_result opaque s None came = over_for reason.Protocol s
own_result opaque s (Some reply) came = own_replied opaque s came reply

-- the vBucket is to take over now, which is written down
unfoldable pub owned : ℕ → DialResult → Job DialResult
owned opaque s = bind_job (role_job s.dial.consumer.dialed.vb call.Own) (λ made. Ended (own_result opaque s made.0 made.1))

-- what a state asks for that is obeyed
abbrev pub state_made : TakeStep → ℕ → DialResult → Job DialResult
state_made Pend opaque s = lift (pended opaque s)
state_made Own opaque s = owned opaque s

-- the producer's NOOP was answered, of which no line tells
abbrev pub noop_met : ℕ → DialResult → DialResult
noop_met opaque s = record s { out = s.out ++ noop_answered opaque }

-- what a step asks for
abbrev pub step_made : ConsumerStep → DialResult → Job DialResult
step_made (step.Adopt log) s = lift (go_on_with log s)
step_made (step.Roll point) s = roll_back point s
step_made (step.Passive p) s = lift (passive_made p s)
step_made (step.Noop opaque) s = Ended (noop_met opaque s)
step_made (step.State take opaque) s = state_made take opaque s
step_made other s = Ended s

-- a frame: the consumer's step, and then what the step asks for
unfoldable pub frame_taken : Frame → DialResult → Job DialResult
frame_taken f s = step_made (consumer_step s.dial.consumer f).1 (with_consumer s (consumer_step s.dial.consumer f).0)

-- frames, one after the other
unfoldable pub frames_taken : List Frame → DialResult → Job DialResult
frames_taken frames s = each_job frame_taken frames s

-- the dial with the bytes that came, of which the whole frames are given out
abbrev pub with_left : DialResult → List ℕ → DialResult
with_left s bytes = record s { dial = record s.dial { heard = left_of bytes } }

-- bytes that begin no frame, whatever follows, end the link
abbrev pub fault_met : Option FrameFault → DialResult → DialResult
fault_met None s = s
fault_met (Some fault) s = if is_over s.dial then s else over_for reason.Protocol s

-- the frames of a delivery that count are acknowledged by their bytes, where there are any, the link has a buffer, and is not over
unfoldable pub bytes_counted : List Frame → DialResult → DialResult
bytes_counted frames s =
    if is_over s.dial || s.dial.consumer.dialed.buffer == 0 || counted_bytes frames == 0 then s
    else record s { out = s.out ++ bytes_acknowledged (counted_bytes frames) s.dial.consumer }

-- the link is over, as a rollback or a takeover could not be written down
abbrev pub is_broken : Option EndReason → Bool
is_broken (Some reason.Disk) = true
is_broken other = false

-- where the link is over, a last line says why. What befell the disk comes before it, so where the disk is why, that line is left to who called
abbrev pub with_end_line : Option EndReason → DialResult → DialResult
with_end_line None s = s
with_end_line (Some why) s = if is_broken (Some why) then s else with_line s (event.Ended s.dial.consumer.dialed.link why)

-- the dial with its last line
abbrev pub with_last_line : DialResult → DialResult
with_last_line s = with_end_line (over_why s.dial.consumer.handshake) s

-- behind the frames of a delivery: the bytes that are left in the reader, what is acknowledged by its bytes, and the end of the link
abbrev pub rest_met : List Frame → DialResult → Job DialResult
rest_met frames s = Ended (with_last_line (bytes_counted frames (fault_met (front_fault s.dial.heard) s)))

-- a delivery of these frames
abbrev pub delivered : List Frame → DialResult → Job DialResult
delivered frames s = bind_job (frames_taken frames s) (rest_met frames)

-- the next bytes from the producer: the frames that are whole now are taken
unfoldable pub bytes_taken : List ℕ → DialResult → Job DialResult
bytes_taken piece s = delivered (frames_in (s.dial.heard ++ piece)) (with_left s (s.dial.heard ++ piece))

-- the next bytes from the producer of a dial
abbrev pub dial_bytes : List ℕ → PlainDial → Job DialResult
dial_bytes piece dial = bytes_taken piece (untold dial)

-- more is written down, which may let the vBucket of a dial acknowledge more
abbrev pub dial_due : PlainDial → Prog DialResult
dial_due dial = due_requested (untold dial)
