-- what the steps of a keeper of journals come to
use Rattle.std.specs.Prelude.{ℕ, if◌then◌else◌, Option, Some, None}
use Rattle.vb_calls.specs.Flushes.{save_all_job, is_refusal, note_role_job}
use Rattle.vb_calls.specs.Jobs.{Job, Ended, Call}
use Rattle.vb_calls.specs.Shelves.{Flush, Idle, Out, Written}
use Rattle.vb_calls.specs.declared.calls.VbAnswer.{VbAnswer}
use Rattle.vb_calls.specs.declared.calls.VbAnswer.TheVariants as answer
use Rattle.vb_calls.specs.declared.calls.VbCall.TheVariants as call
use Rattle.vb_calls.specs.declared.calls.VbReply.{VbReply}
use Rattle.vb_calls.specs.declared.journals.Flushed.{Flushed}
use Rattle.vb_calls.specs.declared.journals.Flushed.TheVariants as flushed
use Rattle.vb_calls.specs.declared.journals.Rolled.{Rolled}
use Rattle.vb_calls.specs.declared.journals.Rolled.TheVariants as rolled
use Rattle.vb_calls.specs.declared.journals.Wrote.{Wrote}
use Rattle.vb_calls.specs.declared.journals.Wrote.TheVariants as wrote
use Rattle.vb_journal.specs.declared.fault.AppendFault.{AppendFault}
use Rattle.vb_journal.specs.declared.fault.AppendFault.TheVariants as fault
use Rattle.vb_types.specs.declared.role.Role.{Role}
use Rattle.vb_types.specs.declared.role.Role.TheVariants as role
use Rattle.vb_types.specs.declared.status.Status.{Status}
use Rattle.vb_types.specs.declared.status.Status.TheVariants as status

-- what a save is answered
abbrev pub flushed_by : Option Wrote → Flushed
flushed_by None = flushed.NothingTaken
flushed_by (Some wrote.Stood) = flushed.Saved
flushed_by (Some wrote.NotAsked) = flushed.Closed
flushed_by (Some wrote.Closed) = flushed.Closed
flushed_by (Some wrote.DiskFailed) = flushed.DiskFailed

-- a batch that was taken is appended, and then it is done
abbrev pub rest_job : ℕ → Flush → Job Flushed
rest_job v Idle = Ended flushed.NothingTaken
rest_job v (Out batch) = save_all_job v batch
rest_job v (Written seq) = Ended flushed.NothingTaken

-- why a vBucket that answers so does not go back
abbrev pub refusal_in : VbAnswer → Option Status
refusal_in (answer.Named ask) = None
refusal_in (answer.Status st) = Some st
refusal_in other = Some status.NotMyVbucket

abbrev pub roll_refusal : Option VbReply → Option Status
roll_refusal None = Some status.NotMyVbucket
roll_refusal (Some reply) = refusal_in reply.answer

-- what a rollback comes to whose records can't be read
abbrev pub unread : AppendFault → Rolled
unread fault.Closed = rolled.Closed
unread fault.DiskFailed = rolled.DiskFailed
unread (fault.Damaged place) = rolled.Damaged place

-- a role that is written down
abbrev pub IsLasting : Role → Type 0
IsLasting role.Active = Unit {0}
IsLasting role.Replica = Unit {0}
IsLasting role.Pending = ⊥
IsLasting role.Dead = Unit {0}

-- a call that was made is written down, unless it was refused
abbrev pub made_job : ℕ → Role → VbReply → Job (Option VbReply × Wrote)
made_job v new reply = if is_refusal reply.answer then Ended (Some reply, wrote.NotAsked) else Call v call.Log (note_role_job v new reply)
