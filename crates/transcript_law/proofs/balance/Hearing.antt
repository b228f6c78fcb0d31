-- what a dial keeps of the bytes that it hears, and what it writes once more is written down
use Rattle.std.proofs.Common.{◌≡◌, ℕ, Bool, true, false, List, ◌++◌, refl, Option, Some, None, ◌⊎◌, inl, inr}
use Rattle.std.specs.Prelude.{◌==◌, ◌||◌, if◌then◌else◌}
use Rattle.mcbp_frame.specs.declared.frame.Frame.{Frame}
use Rattle.mcbp_frame.specs.declared.frame.FrameFault.{FrameFault}
use Rattle.mcbp_frame.specs.Cutting.{front_fault, frames_in, left_of}
use Rattle.vb_events.specs.declared.event.Event.TheVariants as event
use Rattle.vb_events.specs.declared.event.EndReason.{EndReason}
use Rattle.vb_events.specs.declared.event.EndReason.TheVariants as reason
use Rattle.vb_types.specs.declared.role.LogEntry.{LogEntry}
use Rattle.vb_types.specs.declared.stream.StreamAsk.{StreamAsk}
use Rattle.vb_calls.specs.declared.journals.Rolled.{Rolled}
use Rattle.vb_calls.specs.declared.journals.Rolled.TheVariants as rolled
use Rattle.vb_calls.specs.declared.calls.VbAnswer.{VbAnswer}
use Rattle.vb_calls.specs.declared.calls.VbAnswer.TheVariants as answer
use Rattle.vb_calls.specs.declared.calls.VbReply.{VbReply}
use Rattle.vb_calls.specs.Flushes.{roll_job}
use Rattle.vb_calls.specs.Jobs.{Job, Ended, Call as CallJob, Request, each_job, lift, after_job, AlwaysJob}
use Rattle.vb_calls.specs.Programs.{AnyReply, AnyCall, Always, after}
use Rattle.vb_calls.specs.Shelves.{Ask, Shelves}
use Rattle.vb_calls.specs.States.{States}
use Rattle.vb_calls.proofs.Conduct.{after_always}
use Rattle.vb_calls.proofs.JobConduct.{always_bind_job, always_each_job, always_lift, after_job_always}
use Rattle.dcp_consumer.specs.declared.handshake.ConsumerStep.{ConsumerStep}
use Rattle.dcp_consumer.specs.declared.handshake.ConsumerStep.TheVariants as step
use Rattle.dcp_consumer.specs.declared.passive_stream.Passive.{Passive}
use Rattle.dcp_consumer.specs.declared.passive_stream.Passive.TheVariants as passive
use Rattle.transcript_law.proofs.lines.Calm.{state_always}
use Rattle.dcp_consumer.specs.Counting.{counted_bytes, bytes_acknowledged}
use Rattle.dcp_consumer.specs.Machine.{over_why, consumer_step}
use Rattle.node_core.proofs.Dues.{due_always}
use Rattle.node_core.specs.Dials.{PlainDial, DialResult, untold, with_consumer, with_line, over_for, granted_with, is_done, adopt_result, acknowledged_result, due_requested, go_on_with, follower_ask, again_result, rolled_line, rolled_back, roll_back, taken_as, message_result, call_made, passive_made, step_made, frame_taken, frames_taken, with_left, fault_met, is_over, bytes_counted, is_broken, with_end_line, rest_met, bytes_taken, dial_bytes, dial_due}

abbrev AnyAsk : ℕ → Ask → Type 0
AnyAsk v ask = Unit {0}

abbrev Any : {A : Type 0} → A → Type 0
Any a = Unit {0}

any_job : {A : Type 0} (job : Job A) → AlwaysJob AnyReply AnyCall AnyAsk Any job
any_job (Ended a) = tt
any_job (CallJob v call next) = (tt, λ reply any. any_job (next reply))
any_job (Request v ask next) = (tt, λ got. any_job (next got))

module _ (left : List ℕ) where
  -- these bytes are kept
  abbrev Keeps : DialResult → Type 0
  Keeps s = s.dial.heard ≡ left

  either_keeps : (b : Bool) (s t : DialResult) → Keeps s → Keeps t → Keeps (if b then s else t)
  either_keeps true s t first second = first
  either_keeps false s t first second = second

  due_keeps : (s : DialResult) → Keeps s → Always AnyCall Keeps (due_requested s)
  due_keeps s kept = due_always Keeps s (λ seq saved. kept) kept AnyCall tt

  log_keeps : (s : DialResult) (log : List LogEntry) → Keeps s → Always AnyCall Keeps (go_on_with log s)
  unfolding go_on_with
  log_keeps s log kept = (tt, λ reply any. due_keeps (adopt_result log s reply) (either_keeps (is_done reply) (granted_with log s) (over_for reason.Protocol s) kept kept))

  again_keeps : (s : DialResult) (o : Option StreamAsk) → Keeps s → Keeps (again_result s o)
  again_keeps s None kept = kept
  again_keeps s (Some ask) kept = kept

  rolled_keeps : (s : DialResult) (point : ℕ) (came : Rolled) → Keeps s → Always AnyCall Keeps (rolled_back point s came)
  rolled_keeps s point (rolled.To to) kept = (tt, λ reply any. again_keeps (with_line s (rolled_line s.dial.consumer.dialed point to)) (follower_ask reply) kept)
  rolled_keeps s point (rolled.Refused st) kept = kept
  rolled_keeps s point rolled.Closed kept = kept
  rolled_keeps s point rolled.DiskFailed kept = kept
  rolled_keeps s point (rolled.Damaged place) kept = kept

  taken_keeps : (s : DialResult) (r : VbReply) (a : VbAnswer) → Keeps s → Keeps (taken_as r s a)
  taken_keeps s r (answer.Range ss se) kept = kept
  taken_keeps s r answer.Done kept = kept
  taken_keeps s r other kept = kept

  told_keeps : (s : DialResult) (reply : Option VbReply) → Keeps s → Keeps (message_result s reply)
  told_keeps s None kept = kept
  told_keeps s (Some r) kept = taken_keeps s r r.answer kept

  passive_keeps : (s : DialResult) (p : Passive) → Keeps s → Always AnyCall Keeps (passive_made p s)
  unfolding call_made
  passive_keeps s (passive.Call c) kept = (tt, λ reply any. due_keeps (message_result s reply) (told_keeps s reply kept))
  passive_keeps s other kept = kept

  step_keeps : (s : DialResult) (t : ConsumerStep) → Keeps s → AlwaysJob AnyReply AnyCall AnyAsk Keeps (step_made t s)
  unfolding roll_back
  step_keeps s (step.Adopt log) kept = always_lift AnyReply AnyCall AnyAsk Keeps (go_on_with log s) (log_keeps s log kept)
  step_keeps s (step.Roll point) kept = always_bind_job AnyReply AnyCall AnyAsk Any Keeps (roll_job s.dial.consumer.dialed.vb point) (λ came. lift (rolled_back point s came)) (any_job (roll_job s.dial.consumer.dialed.vb point))
      (λ came any. always_lift AnyReply AnyCall AnyAsk Keeps (rolled_back point s came) (rolled_keeps s point came kept))
  step_keeps s (step.Passive p) kept = always_lift AnyReply AnyCall AnyAsk Keeps (passive_made p s) (passive_keeps s p kept)
  step_keeps s (step.State take opaque) kept = state_always Keeps (λ s new kept. kept) (λ s uuid changes kept. kept) (λ s opaque kept. kept) (λ s kept. kept) (λ s kept. kept) take opaque s kept
  step_keeps s other kept = kept

  frame_keeps : (f : Frame) (s : DialResult) → Keeps s → AlwaysJob AnyReply AnyCall AnyAsk Keeps (frame_taken f s)
  unfolding frame_taken
  frame_keeps f s kept = step_keeps (with_consumer s (consumer_step s.dial.consumer f).0) (consumer_step s.dial.consumer f).1 kept

  fault_keeps : (s : DialResult) (fault : Option FrameFault) → Keeps s → Keeps (fault_met fault s)
  fault_keeps s None kept = kept
  fault_keeps s (Some fault) kept = either_keeps (is_over s.dial) s (over_for reason.Protocol s) kept kept

  counted_keeps : (s : DialResult) (frames : List Frame) → Keeps s → Keeps (bytes_counted frames s)
  unfolding bytes_counted
  counted_keeps s frames kept =
      either_keeps (is_over s.dial || s.dial.consumer.dialed.buffer == 0 || counted_bytes frames == 0) s (record s { out = s.out ++ bytes_acknowledged (counted_bytes frames) s.dial.consumer }) kept kept

  end_keeps : (s : DialResult) (why : Option EndReason) → Keeps s → Keeps (with_end_line why s)
  end_keeps s None kept = kept
  end_keeps s (Some why) kept = either_keeps (is_broken (Some why)) s (with_line s (event.Ended s.dial.consumer.dialed.link why)) kept kept

-- what is left behind the whole frames is kept
pub heard_left : (piece : List ℕ) (dial : PlainDial) (states : States) (shelves : Shelves) → (after_job (dial_bytes piece dial) states shelves).1.dial.heard ≡ left_of (dial.heard ++ piece)
unfolding bytes_taken frames_taken
heard_left piece dial states shelves =
    let bytes : List ℕ = dial.heard ++ piece in
    let s : DialResult = with_left (untold dial) bytes in
    after_job_always AnyCall AnyAsk (Keeps (left_of bytes)) (dial_bytes piece dial) states shelves
    (always_bind_job AnyReply AnyCall AnyAsk (Keeps (left_of bytes)) (Keeps (left_of bytes)) (each_job frame_taken (frames_in bytes) s) (rest_met (frames_in bytes))
    (always_each_job AnyReply AnyCall AnyAsk (Keeps (left_of bytes)) frame_taken (λ f t kept. frame_keeps (left_of bytes) f t kept) (frames_in bytes) (Ended s) refl)
    (λ t kept.
    let met : DialResult = fault_met (front_fault t.dial.heard) t in
    end_keeps (left_of bytes) (bytes_counted (frames_in bytes) met) (over_why (bytes_counted (frames_in bytes) met).dial.consumer.handshake) (counted_keeps (left_of bytes) met (frames_in bytes) (fault_keeps (left_of bytes) t (front_fault t.dial.heard) kept))))

-- ---- once more is written down

-- a dial acknowledged all up to a seqno, or nothing
abbrev pub Dued : PlainDial → DialResult → Type 0
Dued dial t = (t ≡ untold dial) ⊎ ((seq : ℕ) × (saved : ℕ) × (t ≡ acknowledged_result seq (untold dial) saved))

always_dued : (dial : PlainDial) → Always AnyCall (Dued dial) (dial_due dial)
always_dued dial = due_always (Dued dial) (untold dial) (λ seq saved. inr (seq, saved, refl)) (inl refl) AnyCall tt

pub dued : (dial : PlainDial) (states : States) → Dued dial (after (dial_due dial) states).1
dued dial states = after_always AnyCall (Dued dial) (dial_due dial) states (always_dued dial)
