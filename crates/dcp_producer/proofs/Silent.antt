-- streams that a change of role ended ask nobody, in whatever order they have their turns
use Rattle.std.proofs.Common.{◌≡◌, ℕ, Bool, true, false, length, Option, Some, None}
use Rattle.std.specs.Prelude.{IsTrue, if◌then◌else◌, slice_get}
use Rattle.std.proofs.lemmas.Bool.{false≢true}
use Rattle.vb_types.specs.declared.change.Change.{Change}
use Rattle.vb_events.specs.declared.event.StreamName.{StreamName}
use Rattle.vb_calls.specs.Jobs.{Job, Ended, AlwaysJob, bind_job, repeated_job}
use Rattle.vb_calls.specs.Programs.{AnyReply, More, Stop, Turn}
use Rattle.vb_calls.proofs.JobConduct.{always_bind_job, always_repeated_job}
use Rattle.flow_control.specs.Windows.{is_open}
use Rattle.dcp_producer.specs.declared.halt.Halt.{Halt}
use Rattle.dcp_producer.specs.declared.halt.Halt.TheVariants as halt
use Rattle.dcp_producer.specs.declared.next_frame.NextFrame.TheVariants as next
use Rattle.dcp_producer.specs.Ending.{AreEnding, LeavesEnding, NoCall, NoRequest}
use Rattle.dcp_producer.specs.Frames.{Next, STATE_CHANGED, alive_next, next_by, next_frame, over}
use Rattle.dcp_producer.specs.Producers.{PlainStream, Served, replaced}
use Rattle.dcp_producer.specs.Pulling.{Halting, Pulling, QuietOnes, came, frames_put, is_quiet, none_quiet, one_frame, one_turn, past_turn, pull_of, pulled, stream_asked, stream_in_turn, turn_had, turns_came}
use Rattle.dcp_producer.proofs.Putting.{all_replaced, all_without, turn_so}

abbrev IsOver : PlainStream → Type 0
IsOver stream = IsTrue stream.ended

-- whatever is replied, nobody is asked
abbrev Silent : {A : Type 0} → (A → Type 0) → Job A → Type 0
Silent answers job = AlwaysJob AnyReply NoCall NoRequest answers job

abbrev Nexts : Next → Type 0
Nexts (x, left) = IsOver left

module _ (name : StreamName) (stream : PlainStream) (ended : IsOver stream) where
  by_role : (b : Bool) → b ≡ true → Silent Nexts (if b then Ended (over STATE_CHANGED stream) else alive_next name stream stream.gives)
  by_role true is = ended
  by_role false is = absurd (false≢true is)

  by_item : (o : Option Change) → Silent Nexts (next_by name stream o)
  by_item (Some c) = ended
  by_item None = by_role stream.ended ended

  next_over : Silent Nexts (next_frame name stream)
  unfolding next_frame
  next_over = by_item (slice_get stream.items stream.next)

abbrev Turned : Turn Pulling Halting → Type 0
Turned (More p) = AreEnding p.served.end.streams
Turned (Stop (p, halted)) = AreEnding p.served.end.streams

came_over : (s : Served) (q : QuietOnes) → AreEnding s.end.streams → (x : Next) → Nexts x → Turned (came s q x)
came_over s q all (next.Put m line, left) over = all_replaced IsOver left s.end.streams over all
came_over s q all (next.End reason, left) over = all_without IsOver left.id (replaced left s.end.streams) (all_replaced IsOver left s.end.streams over all)
came_over s q all (next.Quiet waits, left) over = all_replaced IsOver left s.end.streams over all
came_over s q all (next.Disk, left) over = all_replaced IsOver left s.end.streams over all

asked_over : (s : Served) (q : QuietOnes) (stream : PlainStream) → IsOver stream → AreEnding s.end.streams → Silent Turned (stream_asked s q stream)
asked_over s q stream ended all = always_bind_job AnyReply NoCall NoRequest Nexts Turned (next_frame s.end.desk.stream stream) (λ x. Ended (came s q x)) (next_over s.end.desk.stream stream ended) (came_over s q all)

had_over : (s : Served) (q : QuietOnes) (o : Option PlainStream) → ((stream : PlainStream) → o ≡ Some stream → IsOver stream) → AreEnding s.end.streams → Silent Turned (turn_had s q o)
had_over s q None one all = all
had_over s q (Some stream) one all = by (is_quiet stream.id q)
  where
    by : (b : Bool) → Silent Turned (if b then Ended (More (pull_of s q)) else stream_asked s q stream)
    by true = all
    by false = asked_over s q stream (one stream (λ i. Some stream)) all

turn_over : (p : Pulling) → AreEnding p.served.end.streams → Silent Turned (one_turn p)
unfolding one_turn
turn_over p all = had_over (past_turn p.served) p.quiet (stream_in_turn p.served.end) (λ stream is. turn_so IsOver _ p.served.end.streams stream is all) all

abbrev Framed : Turn Pulling (Served × Halt) → Type 0
Framed (More p) = AreEnding p.served.end.streams
Framed (Stop (s, halted)) = AreEnding s.end.streams

frame_over : (p : Pulling) → AreEnding p.served.end.streams → Silent Framed (one_frame p)
unfolding one_frame
frame_over p all = by (is_open p.served.end.window)
  where
    comes : (t : Turn Pulling Halting) → Turned t → Framed (turns_came t)
    comes (More q) over = over
    comes (Stop (q, None)) over = over
    comes (Stop (q, Some halted)) over = over

    by : (b : Bool) → Silent Framed (if b then bind_job (repeated_job (length p.served.end.streams) one_turn p) (λ turns. Ended (turns_came turns)) else Ended (Stop (p.served, halt.Full)))
    by true = always_bind_job AnyReply NoCall NoRequest Turned Framed (repeated_job (length p.served.end.streams) one_turn p) (λ turns. Ended (turns_came turns))
        (always_repeated_job AnyReply NoCall NoRequest Turned one_turn turn_over (length p.served.end.streams) p all) comes
    by false = all

pub ended_silent : (k : ℕ) (s : Served) → AreEnding s.end.streams → Silent LeavesEnding (frames_put k s)
unfolding frames_put
ended_silent k s all = always_bind_job AnyReply NoCall NoRequest Framed LeavesEnding (repeated_job k one_frame (pull_of s none_quiet)) pulled
    (always_repeated_job AnyReply NoCall NoRequest Framed one_frame frame_over k (pull_of s none_quiet) all) comes
  where
    comes : (t : Turn Pulling (Served × Halt)) → Framed t → Silent LeavesEnding (pulled t)
    comes (More p) over = over
    comes (Stop (s', halted)) over = over
