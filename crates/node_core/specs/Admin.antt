-- what an operator's calls to a vBucket come to
use Rattle.std.specs.Prelude.{◌≢◌, ℕ, Bool, true, false, if◌then◌else◌, List, [], ◌∷◌, ◌++◌, Option, Some, None}
use Rattle.vb_events.specs.declared.event.Answer.{Answer}
use Rattle.vb_events.specs.declared.event.Answer.TheVariants as line
use Rattle.vb_events.specs.declared.event.Cause.{Cause}
use Rattle.vb_events.specs.declared.event.Cause.TheVariants as cause
use Rattle.vb_events.specs.declared.event.Event.{Event}
use Rattle.vb_events.specs.declared.event.Event.TheVariants as event
use Rattle.vb_types.specs.declared.role.Role.{Role}
use Rattle.vb_types.specs.declared.role.Role.TheVariants as role
use Rattle.vb_types.specs.declared.status.Status.{Status}
use Rattle.vb_types.specs.declared.status.Status.TheVariants as status
use Rattle.vb_calls.specs.Flushes.{role_job}
use Rattle.vb_calls.specs.Jobs.{Job, Ended, bind_job, lift}
use Rattle.vb_calls.specs.Programs.{Prog, Done, Call}
use Rattle.vb_calls.specs.declared.journals.Wrote.{Wrote}
use Rattle.vb_calls.specs.declared.journals.Wrote.TheVariants as wrote
use Rattle.vb_calls.specs.declared.calls.VbCall.{VbCall}
use Rattle.vb_calls.specs.declared.calls.VbCall.TheVariants as call
use Rattle.vb_calls.specs.declared.calls.VbAnswer.{VbAnswer}
use Rattle.vb_calls.specs.declared.calls.VbAnswer.TheVariants as answer
use Rattle.vb_calls.specs.declared.calls.Resolved.{Resolved}
use Rattle.vb_calls.specs.declared.calls.VbReply.{VbReply}
use Rattle.node_core.specs.declared.admin.AdminCall.{AdminCall}
use Rattle.node_core.specs.declared.admin.AdminCall.TheVariants as admin
use Rattle.node_core.specs.declared.roles.RoleLines.{RoleLines}
use Rattle.node_core.specs.Calls.{own_lines}
use Rattle.node_core.specs.Shown.{image_lines, shown_line}

-- what an operator's call comes to: its lines, its answer, and, where it gave the vBucket another role, the streams that it ended; and what became of durable writes that are waited for
pub record AdminResult : Type 0 where
  pub events : List Event
  pub answer : Answer
  pub ended : Option (List ℕ)
  pub resolved : List Resolved

-- a list of at most one
abbrev pub option_list : {T : Type 0} → Option T → List T
option_list None = []
option_list (Some x) = x ∷ []

-- the call of the vBucket
abbrev pub admin_call : AdminCall → VbCall
admin_call (admin.Promote uuid) = call.Promote uuid
admin_call admin.Follow = call.Follow
admin_call admin.Dead = call.Dead
admin_call admin.Seal = call.Seal
admin_call admin.Trim = call.Trim
admin_call admin.Stat = call.Stat
admin_call admin.Show = call.Show
admin_call admin.Log = call.Log

-- there is such a vBucket, and it made or took changes with the call
abbrev pub MadeChanges : Option VbReply → Type 0
MadeChanges None = ⊥
MadeChanges (Some reply) = reply.changes ≢ []

-- the call gives the vBucket a role
abbrev pub changes_role : AdminCall → Bool
changes_role (admin.Promote uuid) = true
changes_role admin.Follow = true
changes_role admin.Dead = true
changes_role other = false

-- it was refused
abbrev pub admin_refused : Cause → AdminResult
admin_refused why = record { events = []; answer = line.No why; ended = None; resolved = [] }

-- it was carried out, and told these lines
abbrev pub admin_lines : List Event → AdminResult
admin_lines events = record { events = events; answer = line.Ok; ended = None; resolved = [] }

-- the vBucket has another role: the lines that tell of it, by its reply the streams that it ended, and what became of durable writes
abbrev pub role_changed : VbReply → List Event → AdminResult
role_changed reply events = record { events = events; answer = line.Ok; ended = Some reply.ended; resolved = reply.resolved }

-- why a promotion is refused: its branch's id is 0 or was used before, or the vBucket is active already
abbrev pub promote_cause : Status → Cause
promote_cause status.Einval = cause.UuidUsed
promote_cause other = cause.WrongRole

-- a promotion: the new branch, then the role, and then the changes that the vBucket makes at once
abbrev pub promote_result : ℕ → ℕ → VbReply → VbAnswer → AdminResult
promote_result n v reply (answer.Branch uuid parent fork high) =
    role_changed reply (event.Branch n v uuid parent fork high ∷ event.Role n v role.Active ∷ own_lines n v reply)
promote_result n v reply (answer.Status st) = admin_refused (promote_cause st)
promote_result n v reply other = admin_refused cause.WrongRole

-- a change to another role than that of an active vBucket
abbrev pub role_result : ℕ → ℕ → Role → VbReply → VbAnswer → AdminResult
role_result n v new reply answer.Done = role_changed reply (event.Role n v new ∷ [])
role_result n v new reply other = admin_refused cause.WrongRole

-- a Seal: whether there was an open span
abbrev pub seal_result : VbAnswer → AdminResult
seal_result (answer.Flag sealed) = record { events = []; answer = line.Number (if sealed then 1 else 0); ended = None; resolved = [] }
seal_result other = admin_refused cause.WrongRole

-- a Trim: how many spans it gave up
abbrev pub trim_result : VbAnswer → AdminResult
trim_result (answer.Num removed) = record { events = []; answer = line.Number removed; ended = None; resolved = [] }
trim_result other = admin_refused cause.WrongRole

-- a Show: the vBucket, its documents and its pending prepares
abbrev pub show_result : ℕ → ℕ → VbAnswer → AdminResult
show_result n v (answer.Shown role uuid ss se at image) = admin_lines (shown_line n v role uuid ss se at image ∷ image_lines image)
show_result n v other = admin_refused cause.WrongRole

-- a Log: the failover log
abbrev pub log_result : ℕ → ℕ → VbAnswer → AdminResult
log_result n v (answer.Logged log) = admin_lines (event.Logged n v log ∷ [])
log_result n v other = admin_refused cause.WrongRole

-- a Stat: the vBucket's numbers
abbrev pub stat_result : ℕ → ℕ → VbAnswer → AdminResult
stat_result n v (answer.Stat windows items cursors saved high) = admin_lines (event.Stat n v windows items cursors saved high ∷ [])
stat_result n v other = admin_refused cause.WrongRole

-- what a call comes to by the vBucket's reply
abbrev pub admin_replied : ℕ → ℕ → AdminCall → VbReply → AdminResult
admin_replied n v (admin.Promote uuid) reply = promote_result n v reply reply.answer
admin_replied n v admin.Follow reply = role_result n v role.Replica reply reply.answer
admin_replied n v admin.Dead reply = role_result n v role.Dead reply reply.answer
admin_replied n v admin.Seal reply = seal_result reply.answer
admin_replied n v admin.Trim reply = trim_result reply.answer
admin_replied n v admin.Stat reply = stat_result n v reply.answer
admin_replied n v admin.Show reply = show_result n v reply.answer
admin_replied n v admin.Log reply = log_result n v reply.answer

-- where there is no reply, there is no such vBucket
abbrev pub admin_result : ℕ → ℕ → AdminCall → Option VbReply → AdminResult
admin_result n v asked None = admin_refused cause.UnknownVb
admin_result n v asked (Some reply) = admin_replied n v asked reply

-- an operator's call to the vBucket v of the node n
abbrev pub admin_at : ℕ → ℕ → AdminCall → Prog AdminResult
admin_at n v asked = Call v (admin_call asked) (λ reply. Done (admin_result n v asked reply))

-- a line's answer, where a record was to be appended: that it could not be stands before what the call came to
abbrev pub noted_answer : Wrote → Answer → Answer
noted_answer wrote.Stood said = said
noted_answer wrote.NotAsked said = said
noted_answer wrote.Closed said = line.No cause.Closed
noted_answer wrote.DiskFailed said = line.No cause.Disk

-- what a change of role told, and what became of its record: the role stays changed where that does not stand
abbrev pub role_noted : ℕ → ℕ → AdminCall → Option VbReply × Wrote → AdminResult
role_noted n v asked (reply, wrote) = record (admin_result n v asked reply) { answer = noted_answer wrote (admin_result n v asked reply).answer }

-- an operator's call that gives the vBucket v of the node n another role, which is written down
abbrev pub role_at : ℕ → ℕ → AdminCall → Job AdminResult
role_at n v asked = bind_job (role_job v (admin_call asked)) (λ made. Ended (role_noted n v asked made))

-- an operator's call and its reply, with what became of its record: a call that gives a role has one
abbrev pub noted_job : ℕ → AdminCall → Job (Option VbReply × Wrote)
noted_job v asked = if changes_role asked then role_job v (admin_call asked) else lift (Call v (admin_call asked) (λ reply. Done (reply, wrote.NotAsked)))

-- an operator's call, and what it writes down
abbrev pub admin_job : ℕ → ℕ → AdminCall → Job AdminResult
admin_job n v (admin.Promote uuid) = role_at n v (admin.Promote uuid)
admin_job n v admin.Follow = role_at n v admin.Follow
admin_job n v admin.Dead = role_at n v admin.Dead
admin_job n v other = lift (admin_at n v other)

-- the lines of a change of role: that of a new branch, if one was made, then the role's, and then those of the changes that the vBucket made at once
abbrev pub role_lines : RoleLines → List Event
role_lines lines = option_list lines.branch ++ lines.role ∷ lines.changes.items
