-- what writing down takes: the steps of a batch, a rollback, a change of role
use Rattle.std.specs.Prelude.{ℕ, Bool, true, false, if◌then◌else◌, List, [], length, Option, Some, None}
use Rattle.branch_model.specs.Journals.{cas_of_last, image_at, roll_point}
use Rattle.vb_types.specs.declared.journal.Batch.{Batch}
use Rattle.vb_types.specs.declared.journal.FlushPart.{FlushPart}
use Rattle.vb_types.specs.declared.journal.FlushPart.TheVariants as part
use Rattle.vb_types.specs.declared.journal.Record.{Record}
use Rattle.vb_types.specs.declared.journal.Record.TheVariants as noted
use Rattle.vb_types.specs.declared.role.LogEntry.{LogEntry}
use Rattle.vb_types.specs.declared.role.Role.{Role}
use Rattle.vb_types.specs.declared.role.Role.TheVariants as role
use Rattle.vb_types.specs.declared.status.Status.TheVariants as status
use Rattle.vb_calls.specs.declared.calls.VbAnswer.{VbAnswer}
use Rattle.vb_calls.specs.declared.calls.VbAnswer.TheVariants as answer
use Rattle.vb_calls.specs.declared.calls.VbCall.{VbCall}
use Rattle.vb_calls.specs.declared.calls.VbCall.TheVariants as call
use Rattle.vb_calls.specs.declared.calls.VbReply.{VbReply}
use Rattle.vb_calls.specs.declared.journals.Flushed.{Flushed}
use Rattle.vb_calls.specs.declared.journals.Flushed.TheVariants as flushed
use Rattle.vb_calls.specs.declared.journals.Rolled.{Rolled}
use Rattle.vb_calls.specs.declared.journals.Rolled.TheVariants as rolled
use Rattle.vb_calls.specs.declared.journals.Wrote.{Wrote}
use Rattle.vb_calls.specs.declared.journals.Wrote.TheVariants as wrote
use Rattle.vb_calls.specs.Jobs.{Job, Ended, Call, Request}
use Rattle.vb_calls.specs.Shelves.{Flush, Idle, Out, Written, Fate, Stood, WasClosed, DiskFailed, Reading, Book, Shut, Unread, Broken, Append, Read, Look, Keep}

-- what became of an append
abbrev pub wrote_of : Fate → Wrote
wrote_of Stood = wrote.Stood
wrote_of WasClosed = wrote.Closed
wrote_of DiskFailed = wrote.DiskFailed

-- the position and the number of changes of a batch that was taken
abbrev pub took : Batch → Flushed
took b = flushed.Took b.position.ss b.position.se b.position.at (length b.items)

-- there was nothing to take
abbrev pub took_nothing : Flushed
took_nothing = flushed.Took 0 0 0 0

-- the batch of an answer, if it has one
abbrev pub batch_in : VbAnswer → Option Batch
batch_in (answer.Rows batch) = Some batch
batch_in other = None

-- the batch of a reply, if it has one
abbrev pub batch_of_reply : Option VbReply → Option Batch
batch_of_reply None = None
batch_of_reply (Some reply) = batch_in reply.answer

-- no batch is on its way any more, and the vBucket is told that it stands
abbrev pub done_job : ℕ → ℕ → Job Flushed
done_job v seq = Request v (Keep Idle) (λ kept. Call v (call.FlushDone seq) (λ reply. Ended (flushed.Done reply)))

-- a batch that was appended, and what is to be done then; one that could not be is gone
abbrev pub appended_job : ℕ → Batch → Job Flushed → Fate → Job Flushed
appended_job v batch next Stood = Request v (Keep (Written batch.position.at)) (λ kept. next)
appended_job v batch next WasClosed = Request v (Keep Idle) (λ kept. Ended flushed.Closed)
appended_job v batch next DiskFailed = Request v (Keep Idle) (λ kept. Ended flushed.DiskFailed)

-- a batch is appended
abbrev pub append_job : ℕ → Batch → Job Flushed → Job Flushed
append_job v batch next = Request v (Append (noted.Rows batch)) (appended_job v batch next)

-- a batch that was taken is on its way, if there is one
abbrev pub taken_job : ℕ → (Batch → Job Flushed) → Option Batch → Job Flushed
taken_job v next None = Ended took_nothing
taken_job v next (Some batch) = Request v (Keep (Out batch)) (λ kept. next batch)

-- a batch is taken where none is on its way
abbrev pub take_job : ℕ → Flush → Job Flushed
take_job v Idle = Call v call.FlushTake (λ reply. taken_job v (λ batch. Ended (took batch)) (batch_of_reply reply))
take_job v other = Ended flushed.BatchOut

-- one that was taken is appended
abbrev pub save_job : ℕ → Flush → Job Flushed
save_job v (Out batch) = append_job v batch (Ended flushed.Saved)
save_job v other = Ended flushed.NothingTaken

-- one that was appended is done
abbrev pub finish_job : ℕ → Flush → Job Flushed
finish_job v (Written seq) = done_job v seq
finish_job v other = Ended flushed.NothingTaken

-- a batch is appended, and then it is done
abbrev pub save_all_job : ℕ → Batch → Job Flushed
save_all_job v batch = append_job v batch (done_job v batch.position.at)

-- what is still to be made of the three steps
abbrev pub all_job : ℕ → Flush → Job Flushed
all_job v Idle = Call v call.FlushTake (λ reply. taken_job v (save_all_job v) (batch_of_reply reply))
all_job v (Out batch) = save_all_job v batch
all_job v (Written seq) = done_job v seq

-- by the batch that is on its way
abbrev pub part_job : ℕ → FlushPart → Flush → Job Flushed
part_job v part.Take flush = take_job v flush
part_job v part.Save flush = save_job v flush
part_job v part.Done flush = finish_job v flush
part_job v part.All flush = all_job v flush

-- a step of writing the vBucket v down
unfoldable pub flush_job : ℕ → FlushPart → Job Flushed
flush_job v part = Request v Look (part_job v part)

-- what an answer to a rollback says: how far the vBucket went back, or why it did not
abbrev pub rolled_in : VbAnswer → Rolled
rolled_in (answer.Num now) = rolled.To now
rolled_in (answer.Status st) = rolled.Refused st
rolled_in other = rolled.Refused status.NotMyVbucket

-- the same of a reply, where there is such a vBucket
abbrev pub rolled_by : Option VbReply → Rolled
rolled_by None = rolled.Refused status.NotMyVbucket
rolled_by (Some reply) = rolled_in reply.answer

-- the vBucket is to go back to a point that the records tell, with the image there; its reply says whether it did, since it may have got another role meanwhile
abbrev pub roll_to_job : ℕ → List Record → ℕ → Job Rolled
roll_to_job v book to = Call v (call.RollTo to (image_at book to) (cas_of_last book)) (λ reply. Ended (rolled_by reply))

-- once the rollback stands, a batch on its way is forgotten, and the vBucket goes back
abbrev pub rolled_job : ℕ → List Record → ℕ → Fate → Job Rolled
rolled_job v book to Stood = Request v (Keep Idle) (λ kept. roll_to_job v book to)
rolled_job v book to WasClosed = Ended rolled.Closed
rolled_job v book to DiskFailed = Ended rolled.DiskFailed

-- it is written down first
abbrev pub note_roll_job : ℕ → List Record → ℕ → Job Rolled
note_roll_job v book to = Request v (Append (noted.Roll to)) (rolled_job v book to)

-- by the records: to the greatest complete point at most the one that is named, or 0
abbrev pub read_job : ℕ → ℕ → Reading → Job Rolled
read_job v named (Book book) = note_roll_job v book (roll_point book named)
read_job v named Shut = Ended rolled.Closed
read_job v named Unread = Ended rolled.DiskFailed
read_job v named (Broken place) = Ended (rolled.Damaged place)

-- a vBucket that follows goes back
abbrev pub may_roll_job : ℕ → ℕ → VbAnswer → Job Rolled
may_roll_job v named (answer.Named ask) = Request v Read (read_job v named)
may_roll_job v named (answer.Status st) = Ended (rolled.Refused st)
may_roll_job v named other = Ended (rolled.Refused status.NotMyVbucket)

-- where there is such a vBucket
abbrev pub rollable_job : ℕ → ℕ → Option VbReply → Job Rolled
rollable_job v named None = Ended (rolled.Refused status.NotMyVbucket)
rollable_job v named (Some reply) = may_roll_job v named reply.answer

-- the vBucket v is sent back to a seqno
unfoldable pub roll_job : ℕ → ℕ → Job Rolled
roll_job v named = Call v call.Ask (rollable_job v named)

-- The role that a call gives. One that gives none, or none that is written down, is written down by no job (`IsRoleCall`); each has its row, so that a new call is decided.
abbrev pub role_of_call : VbCall → Role
role_of_call (call.Promote uuid) = role.Active
role_of_call call.Follow = role.Replica
role_of_call call.Dead = role.Dead
role_of_call call.Pend = role.Pending
role_of_call call.Own = role.Active
role_of_call (call.Yield id) = role.Dead
role_of_call (call.Get key) = role.Dead
role_of_call (call.Store write clock) = role.Dead
role_of_call (call.Durable write clock level deadline waiter) = role.Dead
role_of_call (call.OpenStream id ask sync) = role.Dead
role_of_call (call.Place id) = role.Dead
role_of_call (call.Take id) = role.Dead
role_of_call (call.CloseStream id) = role.Dead
role_of_call (call.DropCursor id) = role.Dead
role_of_call (call.Chain chain) = role.Dead
role_of_call (call.Ack member seq) = role.Dead
role_of_call (call.Tick clock) = role.Dead
role_of_call call.Due = role.Dead
role_of_call call.Ask = role.Dead
role_of_call (call.Adopt log) = role.Dead
role_of_call (call.Marker start end) = role.Dead
role_of_call (call.Receive change) = role.Dead
role_of_call (call.RollTo at image cas) = role.Dead
role_of_call call.Seal = role.Dead
role_of_call call.Trim = role.Dead
role_of_call call.FlushTake = role.Dead
role_of_call (call.FlushDone seq) = role.Dead
role_of_call call.Stat = role.Dead
role_of_call call.Log = role.Dead
role_of_call call.Show = role.Dead

-- A call that changes the role for good. While a vBucket is to take over, or is given up, its former role is what is written down.
abbrev pub IsRoleCall : VbCall → Type 0
IsRoleCall (call.Promote uuid) = Unit {0}
IsRoleCall call.Follow = Unit {0}
IsRoleCall call.Dead = Unit {0}
IsRoleCall call.Own = Unit {0}
IsRoleCall other = ⊥

-- a call was refused
abbrev pub is_refusal : VbAnswer → Bool
is_refusal (answer.Status st) = true
is_refusal other = false

-- the failover log of an answer
abbrev pub log_in : VbAnswer → List LogEntry
log_in (answer.Logged log) = log
log_in other = []

-- the failover log of a reply
abbrev pub log_of_reply : Option VbReply → List LogEntry
log_of_reply None = []
log_of_reply (Some reply) = log_in reply.answer

-- a role is written down, with the log
abbrev pub note_role_job : ℕ → Role → VbReply → Option VbReply → Job (Option VbReply × Wrote)
note_role_job v new reply logged = Request v (Append (noted.State new (log_of_reply logged))) (λ fate. Ended (Some reply, wrote_of fate))

-- a call that was made is written down
abbrev pub role_made_job : ℕ → VbCall → VbReply → Job (Option VbReply × Wrote)
role_made_job v asked reply =
    if is_refusal reply.answer then Ended (Some reply, wrote.NotAsked) else Call v call.Log (note_role_job v (role_of_call asked) reply)

-- where there is such a vBucket
abbrev pub role_told_job : ℕ → VbCall → Option VbReply → Job (Option VbReply × Wrote)
role_told_job v asked None = Ended (None, wrote.NotAsked)
role_told_job v asked (Some reply) = role_made_job v asked reply

-- a change of role of the vBucket v
unfoldable pub role_job : ℕ → VbCall → Job (Option VbReply × Wrote)
role_job v asked = Call v asked (role_told_job v asked)
