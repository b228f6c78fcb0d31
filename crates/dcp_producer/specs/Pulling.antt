-- how a producer puts the frames of its streams, in turn and through its window, as jobs over its node's vBuckets and their journals
use Rattle.std.specs.Prelude.{ℕ, ◌≡◌, ◌+◌, ◌==◌, Bool, if◌then◌else◌, List, [], ◌∷◌, ◌++◌, length, Option, Some, None}
use Rattle.std.specs.List.{list_any}
use Rattle.mcbp_dcp.specs.declared.message.DcpMsg.TheVariants as msg
use Rattle.mcbp_frame.specs.declared.frame.Frame.{Frame}
use Rattle.mcbp_frame.specs.Spelling.{spelling}
use Rattle.mcbp_dcp.specs.DcpFrames.{dcp_frame}
use Rattle.vb_events.specs.declared.event.Event.{Event}
use Rattle.vb_events.specs.declared.event.Event.TheVariants as event
use Rattle.vb_events.specs.declared.event.Why.{Why}
use Rattle.vb_events.specs.declared.event.Why.TheVariants as why
use Rattle.vb_calls.specs.Jobs.{Job, Ended, bind_job, repeated_job}
use Rattle.vb_calls.specs.Programs.{Turn, More, Stop}
use Rattle.flow_control.specs.Windows.{is_open, with_put}
use Rattle.dcp_producer.specs.declared.halt.Halt.{Halt}
use Rattle.dcp_producer.specs.declared.halt.Halt.TheVariants as halt
use Rattle.dcp_producer.specs.declared.next_frame.NextFrame.{NextFrame}
use Rattle.dcp_producer.specs.declared.next_frame.NextFrame.TheVariants as next
use Rattle.dcp_producer.specs.declared.pulls.Turned.{Turned}
use Rattle.dcp_producer.specs.declared.pulls.Turned.TheVariants as turned
use Rattle.dcp_producer.specs.declared.next_frame.Waits.{Waits}
use Rattle.dcp_producer.specs.declared.next_frame.Waits.TheVariants as waits
use Rattle.dcp_producer.specs.Producers.{PlainStream, PlainProducer, Served, ring_of, stream_of_id, with_stream, with_turn, without_stream}
use Rattle.dcp_producer.specs.Frames.{Next, next_frame}
use Rattle.flow_control.specs.Rings.{next_id}

-- why no more was put, as the line says it: that all were that were asked for, that there was no more, that the window is shut, what a stream waits for, or that the journal of one can't be read
abbrev pub why_of : Halt → Why
why_of halt.All = why.All
why_of halt.Idle = why.Idle
why_of halt.Full = why.Full
why_of halt.WaitState = why.WaitState
why_of halt.WaitSaved = why.WaitSaved
why_of halt.Disk = why.Disk

-- a frame is on its way, with the line that tells of it: it is counted, and its whole length is outstanding then
abbrev pub frame_put : Frame → Event → Served → Served
frame_put f line s = record {
  end = record s.end { window = with_put (length (spelling f)) s.end.window };
  events = s.events ++ line ∷ [];
  out = s.out ++ spelling f;
  count = s.count + 1;
  resolved = s.resolved;
}

-- a stream goes on so
abbrev pub stream_went : PlainStream → Served → Served
stream_went stream s = record s { end = with_stream stream s.end }

-- the end of a stream, which the connection has no more then
abbrev pub end_put : PlainStream → ℕ → Served → Served
end_put stream reason s =
    frame_put (dcp_frame (msg.StreamEnd reason) stream.opaque stream.vb) (event.Finished s.end.desk.stream reason) (record s { end = without_stream stream.id s.end })

-- what two streams wait for, as a pull says it: that of the answer to a state comes first, and next that of what is to be saved
abbrev pub first_wait : Waits → Waits → Waits
first_wait waits.Nothing other = other
first_wait waits.Saved waits.Nothing = waits.Saved
first_wait waits.Saved waits.Saved = waits.Saved
first_wait waits.Saved waits.State = waits.State
first_wait waits.State other = waits.State

-- the streams that put nothing when they were asked in a pull, and what they wait for
pub record QuietOnes : Type 0 where
  pub ids : List ℕ
  pub waits : Waits

-- none
abbrev pub none_quiet : QuietOnes
none_quiet = record { ids = []; waits = waits.Nothing }

-- one more
abbrev pub with_quiet : ℕ → Waits → QuietOnes → QuietOnes
with_quiet id for q = record { ids = q.ids ++ id ∷ []; waits = first_wait q.waits for }

-- a stream was quiet before
abbrev pub is_quiet : ℕ → QuietOnes → Bool
is_quiet id q = list_any (λ other. other == id) q.ids

-- why no more is put where streams wait for this
abbrev pub halt_of : Waits → Halt
halt_of waits.Nothing = halt.Idle
halt_of waits.Saved = halt.WaitSaved
halt_of waits.State = halt.WaitState

-- why no more is put where no stream puts a frame
abbrev pub quiet_halt : QuietOnes → Halt
quiet_halt q = halt_of q.waits

-- a pull so far: the connection, and the streams that are quiet till it ends
pub record Pulling : Type 0 where
  pub served : Served
  pub quiet : QuietOnes

-- a pull so far, of this connection with these quiet ones
abbrev pub pull_of : Served → QuietOnes → Pulling
pull_of s q = record { served = s; quiet = q }

-- the next stream has its turn
abbrev pub past_turn : Served → Served
past_turn s = record s { end = with_turn s.end }

-- the stream of a number, if there is a number
abbrev pub stream_in : Option ℕ → List PlainStream → Option PlainStream
stream_in None streams = None
stream_in (Some id) streams = stream_of_id id streams

-- the stream whose turn it is
abbrev pub stream_in_turn : PlainProducer → Option PlainStream
stream_in_turn end = stream_in (next_id (ring_of end)) end.streams

-- a pull where a turn stops: it goes on with the next frame, or this is why it ends
abbrev pub Halting : Type 0
Halting = Pulling × Option Halt

-- what a turn comes to: a frame was put, and no other stream is asked for it; or none was, and the next one has its turn; or the stream's journal can't be read, and the pull ends
abbrev pub turn_of : Turned → Pulling → Turn Pulling Halting
turn_of turned.Put p = Stop (p, None)
turn_of turned.Passed p = More p
turn_of turned.Unread p = Stop (p, Some halt.Disk)

-- a turn that puts a frame counts one, and any other leaves the count and the window; what became of durable writes is left by all
abbrev pub Counts : Turned → Served → Served → Type 0
Counts turned.Put old new = (new.count ≡ old.count + 1) × (new.resolved ≡ old.resolved)
Counts other old new = (new.count ≡ old.count) × (new.end.window ≡ old.end.window) × (new.resolved ≡ old.resolved)

-- the stream puts its next frame, or its end; or it is quiet till the pull ends; or its journal can't be read, which ends the pull, and the stream has had its turn then
abbrev pub came_as : Served → QuietOnes → PlainStream → NextFrame → Turn Pulling Halting
came_as s q stream (next.Put m line) = Stop (pull_of (frame_put (dcp_frame m stream.opaque stream.vb) line s) q, None)
came_as s q stream (next.End reason) = Stop (pull_of (end_put stream reason s) q, None)
came_as s q stream (next.Quiet for) = More (pull_of s (with_quiet stream.id for q))
came_as s q stream next.Disk = Stop (pull_of s q, Some halt.Disk)

-- so its turn comes to this, and it goes on
abbrev pub came : Served → QuietOnes → Next → Turn Pulling Halting
came s q (next, stream) = came_as (stream_went stream s) q stream next

-- a stream is asked for its next frame
abbrev pub stream_asked : Served → QuietOnes → PlainStream → Job (Turn Pulling Halting)
stream_asked s q stream = bind_job (next_frame s.end.desk.stream stream) (λ next. Ended (came s q next))

-- a stream has its turn: it is asked, unless it was quiet before in this pull
abbrev pub turn_had : Served → QuietOnes → Option PlainStream → Job (Turn Pulling Halting)
turn_had s q None = Ended (More (pull_of s q))
turn_had s q (Some stream) = if is_quiet stream.id q then Ended (More (pull_of s q)) else stream_asked s q stream

-- the stream whose turn it is has it; one that was quiet before in this pull is passed over, and has had its turn with that
unfoldable pub one_turn : Pulling → Job (Turn Pulling Halting)
one_turn p = turn_had (past_turn p.served) p.quiet (stream_in_turn p.served.end)

-- a frame was put in one of the turns, or the pull ended in one, or every stream had its turn and none put a frame
abbrev pub turns_came : Turn Pulling Halting → Turn Pulling (Served × Halt)
turns_came (Stop (p, None)) = More p
turns_came (Stop (p, Some halted)) = Stop (p.served, halted)
turns_came (More p) = Stop (p.served, quiet_halt p.quiet)

-- a frame was put, or why none was
abbrev pub frame_of : Option Halt → Pulling → Turn Pulling (Served × Halt)
frame_of None p = More p
frame_of (Some halted) p = Stop (p.served, halted)

-- one frame of the connection, of the first stream in turn that has one: each has one turn. None goes through a window that is shut, whatever streams there are
unfoldable pub one_frame : Pulling → Job (Turn Pulling (Served × Halt))
one_frame p =
    if is_open p.served.end.window then bind_job (repeated_job (length p.served.end.streams) one_turn p) (λ turns. Ended (turns_came turns))
    else Ended (Stop (p.served, halt.Full))

-- what is left after so many frames, and why no more was put
abbrev pub pulled : Turn Pulling (Served × Halt) → Job (Served × Halt)
pulled (More p) = Ended (p.served, halt.All)
pulled (Stop stopped) = Ended stopped

-- at most so many frames
unfoldable pub frames_put : ℕ → Served → Job (Served × Halt)
frames_put k s = bind_job (repeated_job k one_frame (pull_of s none_quiet)) pulled
