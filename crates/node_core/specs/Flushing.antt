-- what a step of writing a vBucket down comes to, and a call that lets it resolve durable writes
use Rattle.std.specs.Prelude.{ℕ, ◌==◌, Bool, true, false, if◌then◌else◌, List, [], ◌∷◌, Option, Some, None}
use Rattle.vb_events.specs.declared.event.Answer.{Answer}
use Rattle.vb_events.specs.declared.event.Answer.TheVariants as line
use Rattle.vb_events.specs.declared.event.Cause.TheVariants as cause
use Rattle.vb_events.specs.declared.event.Event.{Event}
use Rattle.vb_events.specs.declared.event.Event.TheVariants as event
use Rattle.vb_types.specs.declared.journal.FlushPart.{FlushPart}
use Rattle.vb_calls.specs.declared.calls.VbAnswer.{VbAnswer}
use Rattle.vb_calls.specs.declared.calls.VbAnswer.TheVariants as answer
use Rattle.vb_calls.specs.declared.calls.VbCall.TheVariants as call
use Rattle.vb_calls.specs.declared.calls.Resolved.{Resolved}
use Rattle.vb_calls.specs.declared.calls.VbReply.{VbReply}
use Rattle.vb_calls.specs.declared.journals.Flushed.{Flushed}
use Rattle.vb_calls.specs.declared.journals.Flushed.TheVariants as flushed
use Rattle.node_core.specs.Calls.{own_lines, own_lines_if}
use Rattle.vb_calls.specs.Flushes.{flush_job}
use Rattle.vb_calls.specs.Jobs.{Job, Ended, bind_job}
use Rattle.vb_calls.specs.Programs.{Prog}
use Rattle.vb_calls.specs.Programs as prog
use Rattle.durability.specs.Chains.{Links}
use Rattle.vb_types.specs.declared.status.Status.TheVariants as status

-- its lines, its answer, and what became of durable writes that are waited for
pub record FlushResult : Type 0 where
  pub events : List Event
  pub answer : Answer
  pub resolved : List Resolved

-- it was answered so, and nothing is told of it
abbrev pub flush_answered : Answer → FlushResult
flush_answered said = record { events = []; answer = said; resolved = [] }

-- a batch of so many changes was taken: a line tells of it, if it has any
abbrev pub took_result : Event → ℕ → FlushResult
took_result batch count = record { events = if count == 0 then [] else batch ∷ []; answer = line.Number count; resolved = [] }

-- up to where the vBucket counts as saved
abbrev pub saved_in : VbAnswer → ℕ
saved_in (answer.Num saved) = saved
saved_in other = 0

-- the same of a reply
abbrev pub saved_of_reply : Option VbReply → ℕ
saved_of_reply None = 0
saved_of_reply (Some reply) = saved_in reply.answer

-- what became of durable writes, where there is a reply
abbrev pub resolved_in : Option VbReply → List Resolved
resolved_in None = []
resolved_in (Some reply) = reply.resolved

-- what a step came to; a batch that is done may let the vBucket make changes
abbrev pub flush_result : ℕ → ℕ → Flushed → FlushResult
flush_result n v (flushed.Took ss se at count) = took_result (event.Batch n v ss se at count) count
flush_result n v flushed.Saved = flush_answered line.Ok
flush_result n v (flushed.Done reply) = record { events = own_lines_if n v reply; answer = line.Number (saved_of_reply reply); resolved = resolved_in reply }
flush_result n v flushed.BatchOut = flush_answered (line.No cause.BatchOut)
flush_result n v flushed.NothingTaken = flush_answered (line.No cause.NothingTaken)
flush_result n v flushed.Closed = flush_answered (line.No cause.Closed)
flush_result n v flushed.DiskFailed = flush_answered (line.No cause.Disk)

-- a step of writing the vBucket v of the node n down, where there is one, as the access to them says
abbrev pub flush_at : ℕ → ℕ → FlushPart → Bool → Job FlushResult
flush_at n v part true = bind_job (flush_job v part) (λ came. Ended (flush_result n v came))
flush_at n v part false = Ended (flush_answered (line.No cause.UnknownVb))

-- a call of an active vBucket's chain was made: the lines of the changes that it made at once. Any other vBucket has the wrong role
abbrev pub settled_by : ℕ → ℕ → VbReply → VbAnswer → FlushResult
settled_by n v reply answer.Done = record { events = own_lines n v reply; answer = line.Ok; resolved = reply.resolved }
settled_by n v reply other = flush_answered (line.No cause.WrongRole)

-- where there is no reply, there is no such vBucket
abbrev pub settled_result : ℕ → ℕ → Option VbReply → FlushResult
settled_result n v None = flush_answered (line.No cause.UnknownVb)
settled_result n v (Some reply) = settled_by n v reply reply.answer

-- the chain of the vBucket v of the node n is set
abbrev pub chain_changed : ℕ → ℕ → Links → Prog FlushResult
chain_changed n v chain = prog.Call v (call.Chain chain) (λ reply. prog.Done (settled_result n v reply))

-- its prepares whose time is up by the clock are given up
abbrev pub ticked : ℕ → ℕ → ℕ → Prog FlushResult
ticked n v clock = prog.Call v (call.Tick clock) (λ reply. prog.Done (settled_result n v reply))

-- a vBucket refuses the branch 0 in any case, an active one as it is active
abbrev pub is_active_answer : VbAnswer → Bool
is_active_answer (answer.Status status.NotMyVbucket) = true
is_active_answer other = false

-- whether there is such a vBucket, and whether it is active
abbrev pub activity_of_reply : Option VbReply → Option Bool
activity_of_reply None = None
activity_of_reply (Some reply) = Some (is_active_answer reply.answer)

-- the vBucket v is asked whether it is active, by a call that changes nothing
abbrev pub activity_requested : ℕ → Prog (Option Bool)
activity_requested v = prog.Call v (call.Promote 0) (λ reply. prog.Done (activity_of_reply reply))
