-- what a node does for the commands of its clients, for an operator and for its dials opens no stream
use Rattle.std.specs.Prelude.{◌≡◌, ◌==◌, if◌then◌else◌}
use Rattle.transcript_law.proofs.Words.{ℕ, Bool, true, false, List, refl, ap, sym, ◌∙◌, subst, inl, inr, Option, Some, None, Result, Ok, Err, nat_le, Frame, RESPONSE, Status, KvRequest, Plain, VbCall, VbReply, States}
use Rattle.transcript_law.proofs.Words.{after, after_job, bind_job, Done, Job, Ended, frame_handled, request_handled, plain_step, admin_call, admin_replied, admin_result, AdminCall, AdminResult, dial_bytes, promoted, promote_refusal, is_role, role_result, turn_row, in_role, ending_reply, refusal_reply, VbAnswer, Role}
use Rattle.transcript_law.proofs.{lines.Calm.{AnyAsk}, invariant.Unopened.{NoNew, OpensNone, after_job_new, after_new, either, found_at_own, led_none, none_new, step_new}}
use Rattle.transcript_law.specs.Feeding.{Has, HasIn}
use Rattle.dcp_consumer.specs.declared.handshake.Dialed.{Dialed}
use Rattle.client_session.specs.Serving.{MOST_DURABLE, Served, deadline_of, durable_called, frame_answered, handed, is_dcp, next_waiter, refused}
use Rattle.mcbp_kv.specs.Requests.{request_of}
use Rattle.mcbp_kv.specs.declared.request.KvRequest.TheVariants as request
use Rattle.node_core.proofs.Conduct.{bytes_follow}
use Rattle.node_core.specs.Admin.{role_at, role_noted}
use Rattle.node_core.specs.Conduct.{FollowsAt, KeepsLink, RollsAt}
use Rattle.node_core.proofs.Dues.{due_always}
use Rattle.node_core.specs.Dials.{PlainDial, dial_due, untold}
use Rattle.node_core.specs.Flushing.{flush_at, flush_result}
use Rattle.node_core.specs.Loading.{start_job, start_result}
use Rattle.vb_calls.proofs.JobConduct.{after_job_always, always_bind_job}
use Rattle.vb_calls.specs.Flushes.{append_job, appended_job, batch_of_reply, done_job, flush_job, is_refusal, note_role_job, part_job, role_of_call, role_job, role_told_job, save_all_job, taken_job, took}
use Rattle.vb_calls.specs.Jobs.{AlwaysJob, Call as AsksCall}
use Rattle.vb_calls.specs.Programs.{Always, AnyReply}
use Rattle.vb_calls.specs.Shelves.{DiskFailed, Fate, Flush, Idle, Out, Shelves, Stood, WasClosed, Written}
use Rattle.vb_calls.specs.States.{call_at, states_step}
use Rattle.vb_calls.specs.declared.calls.VbCall.TheVariants as call
use Rattle.vb_calls.specs.declared.journals.Flushed.{Flushed}
use Rattle.vb_calls.specs.declared.journals.Wrote.TheVariants as wrote
use Rattle.vb_types.specs.declared.journal.Batch.{Batch}
use Rattle.vb_types.specs.declared.journal.FlushPart.{FlushPart}
use Rattle.vb_types.specs.declared.journal.FlushPart.TheVariants as part
use Rattle.node_core.specs.declared.admin.AdminCall.TheVariants as admin

pub same_call : (v : ℕ) (c : VbCall) → OpensNone v c → OpensNone v c
same_call v c q = q

-- ---- clients

request_quiet : (clock : ℕ) (f : Frame) (q : Result KvRequest Status) (s : Served) → Always OpensNone (λ a. Unit {0}) (request_handled clock f q s)
unfolding request_handled
request_quiet clock f (Err st) s = tt
request_quiet clock f (Ok request.Noop) s = tt
request_quiet clock f (Ok (request.Hello features)) s = tt
request_quiet clock f (Ok (request.Get key)) s = (tt, λ reply any. tt)
request_quiet clock f (Ok (request.Write write None)) s = (tt, λ reply any. tt)
request_quiet clock f (Ok (request.Write write (Some wish))) s =
    either (Always OpensNone (λ a. Unit {0})) (nat_le MOST_DURABLE s.session.used) (Done (refused f Status.Etmpfail s))
    (durable_called f (call.Durable write clock wish.level (deadline_of clock wish.timeout) (next_waiter s.session)) s) tt (tt, λ reply any. tt)

answered_quiet : (clock : ℕ) (f : Frame) (s : Served) → Always OpensNone (λ a. Unit {0}) (frame_answered clock f s)
answered_quiet clock f s = request_quiet clock f (request_of s.session.settings.json f) s

pub frame_quiet : (clock : ℕ) (f : Frame) (s : Served) → Always OpensNone (λ a. Unit {0}) (frame_handled clock f s)
unfolding frame_handled
frame_quiet clock f s = either (Always OpensNone (λ a. Unit {0})) (f.magic == RESPONSE) (Done s) (if is_dcp f.opcode then Done (handed f s) else frame_answered clock f s) tt
    (either (Always OpensNone (λ a. Unit {0})) (is_dcp f.opcode) (Done (handed f s)) (frame_answered clock f s) tt (answered_quiet clock f s))

-- ---- steps of writing down

abbrev Quiet : {A : Type 0} → Job A → Type 0
Quiet job = AlwaysJob AnyReply OpensNone AnyAsk (λ a. Unit {0}) job

done_quiet : (v seq : ℕ) → Quiet (done_job v seq)
done_quiet v seq = (tt, λ kept. (tt, λ reply any. tt))

append_quiet : (v : ℕ) (batch : Batch) (next : Job Flushed) → Quiet next → Quiet (append_job v batch next)
append_quiet v batch next q = (tt, by)
  where
    by : (fate : Fate) → Quiet (appended_job v batch next fate)
    by Stood = (tt, λ kept. q)
    by WasClosed = (tt, λ kept. tt)
    by DiskFailed = (tt, λ kept. tt)

taken_quiet : (v : ℕ) (next : Batch → Job Flushed) (o : Option Batch) → ((b : Batch) → Quiet (next b)) → Quiet (taken_job v next o)
taken_quiet v next None q = tt
taken_quiet v next (Some b) q = (tt, λ kept. q b)

part_quiet : (v : ℕ) (p : FlushPart) (flush : Flush) → Quiet (part_job v p flush)
part_quiet v part.Take Idle = (tt, λ reply any. taken_quiet v (λ batch. Ended (took batch)) (batch_of_reply reply) (λ b. tt))
part_quiet v part.Take (Out batch) = tt
part_quiet v part.Take (Written seq) = tt
part_quiet v part.Save Idle = tt
part_quiet v part.Save (Out batch) = append_quiet v batch (Ended Flushed.Saved) tt
part_quiet v part.Save (Written seq) = tt
part_quiet v part.Done Idle = tt
part_quiet v part.Done (Out batch) = tt
part_quiet v part.Done (Written seq) = done_quiet v seq
part_quiet v part.All Idle = (tt, λ reply any. taken_quiet v (save_all_job v) (batch_of_reply reply) (λ b. append_quiet v b (done_job v b.position.at) (done_quiet v b.position.at)))
part_quiet v part.All (Out batch) = append_quiet v batch (done_job v batch.position.at) (done_quiet v batch.position.at)
part_quiet v part.All (Written seq) = done_quiet v seq

pub flush_quiet : (n v : ℕ) (p : FlushPart) (there : Bool) (states : States) (shelves : Shelves) → NoNew states (after_job (flush_at n v p there) states shelves).0.0
unfolding flush_job
flush_quiet n v p there states shelves = after_job_new OpensNone same_call AnyAsk (λ a. Unit {0}) (flush_at n v p there) states shelves (by there)
  where
    by : (b : Bool) → Quiet (flush_at n v p b)
    by true = always_bind_job AnyReply OpensNone AnyAsk (λ a. Unit {0}) (λ a. Unit {0}) (flush_job v p) (λ came. Ended (flush_result n v came)) (tt, part_quiet v p) (λ came any. tt)
    by false = tt

-- ---- dials

follows_quiet : (d : Dialed) (v : ℕ) (c : VbCall) → FollowsAt d v c → OpensNone v c
follows_quiet d v (call.OpenStream id ask sync) (own, inl f) = f
follows_quiet d v (call.OpenStream id ask sync) (own, inr f) = f.1
follows_quiet d v other f = tt

pub fed_quiet : (piece : List ℕ) (dial : PlainDial) (states : States) (shelves : Shelves) → NoNew states (after_job (dial_bytes piece dial) states shelves).0.0
fed_quiet piece dial states shelves =
    after_job_new (FollowsAt dial.consumer.dialed) (follows_quiet dial.consumer.dialed) (RollsAt dial.consumer.dialed) (KeepsLink (untold dial)) (dial_bytes piece dial) states shelves (bytes_follow piece dial)

pub due_quiet : (dial : PlainDial) (states : States) → NoNew states (after (dial_due dial) states).0
due_quiet dial states = after_new OpensNone same_call (λ a. Unit {0}) (dial_due dial) states (due_always (λ a. Unit {0}) (untold dial) (λ seq saved. tt) tt OpensNone tt)

-- ---- roles

-- a vBucket at its number

-- no vBucket has a new stream, and the vBucket v none
pub record Ends (states states' : States) (v : ℕ) : Type 0 where
  pub less : NoNew states states'
  pub none : (id : ℕ) → HasIn (states' v) id → ⊥

module _ (n v : ℕ) (asked : AdminCall) (opens : OpensNone v (admin_call asked))
    (ends : (vb : Plain) (ids : List ℕ) → (admin_replied n v asked (plain_step vb (admin_call asked)).1).ended ≡ Some ids → (id : ℕ) → Has (plain_step vb (admin_call asked)).0.streams id → ⊥) where
  abbrev Told : Option VbReply → AdminResult → Type 0
  Told reply told = told.ended ≡ (admin_result n v asked reply).ended

  noted : (reply : Option VbReply) → AlwaysJob AnyReply OpensNone AnyAsk (Told reply) (bind_job (role_told_job v (admin_call asked) reply) (λ made. Ended (role_noted n v asked made)))
  noted None = refl
  noted (Some reply) = either (λ job. AlwaysJob AnyReply OpensNone AnyAsk (Told (Some reply)) (bind_job job (λ made. Ended (role_noted n v asked made)))) (is_refusal reply.answer) (Ended (Some reply, wrote.NotAsked)) (AsksCall v call.Log (note_role_job v (role_of_call (admin_call asked)) reply)) refl (tt, λ logged any. (tt, λ fate. refl))

  module _ (states : States) (shelves : Shelves) (ids : List ℕ) where
    abbrev step : States × Option VbReply
    step = states_step states v (admin_call asked)

    abbrev job : Job AdminResult
    job = bind_job (role_told_job v (admin_call asked) step.1) (λ made. Ended (role_noted n v asked made))

    later : NoNew step.0 (after_job job step.0 shelves).0.0
    later = after_job_new OpensNone same_call AnyAsk (Told step.1) job step.0 shelves (noted step.1)

    told : (after_job job step.0 shelves).1.ended ≡ Some ids → (admin_result n v asked step.1).ended ≡ Some ids
    told e = sym (after_job_always OpensNone AnyAsk (Told step.1) job step.0 shelves (noted step.1)) ∙ e

    by_vb : (o : Option Plain) → states v ≡ o → (admin_result n v asked step.1).ended ≡ Some ids → (id : ℕ) → HasIn (step.0 v) id → ⊥
    by_vb None is e id h = let z : None ≡ Some ids = sym (ap (λ o. (admin_result n v asked (call_at states v (admin_call asked) o).1).ended) is) ∙ e in cc
    by_vb (Some vb) is e id h =
        ends vb ids (sym (ap (λ o. (admin_result n v asked (call_at states v (admin_call asked) o).1).ended) is) ∙ e) id
        (subst (λ o. HasIn o id) (ap (λ o. (call_at states v (admin_call asked) o).0 v) is ∙ found_at_own states v (plain_step vb (admin_call asked)).0) h)

    pub ends_streams : (after_job (role_at n v asked) states shelves).1.ended ≡ Some ids → Ends states (after_job (role_at n v asked) states shelves).0.0 v
    unfolding role_job
    ends_streams e = record {
      less = none_new states step.0 (after_job job step.0 shelves).0.0 (step_new states v (admin_call asked) opens) later;
      none = λ id h. by_vb (states v) refl (told e) id (later v id h);
    }

-- each call that gives a role
pub promote_ends : (n v uuid : ℕ) (states : States) (shelves : Shelves) (ids : List ℕ) → (after_job (role_at n v (admin.Promote uuid)) states shelves).1.ended ≡ Some ids → Ends states (after_job (role_at n v (admin.Promote uuid)) states shelves).0.0 v
promote_ends n v uuid = ends_streams n v (admin.Promote uuid) tt (λ vb ids e. by vb ids (promote_refusal vb uuid) e)
  where
    by : (vb : Plain) (ids : List ℕ) (o : Option Status) → (admin_replied n v (admin.Promote uuid) (promoted o vb uuid).1).ended ≡ Some ids → (id : ℕ) → Has (promoted o vb uuid).0.streams id → ⊥
    by vb ids (Some st) e id h = let z : None ≡ Some ids = e in cc
    by vb ids None e id h = led_none vb uuid id h

-- a vBucket that takes another role than that of an active one
turned_none : (n v : ℕ) (vb : Plain) (new : Role) (ids : List ℕ) → (role_result n v new (turn_row vb new).1 (turn_row vb new).1.answer).ended ≡ Some ids → (id : ℕ) → Has (turn_row vb new).0.streams id → ⊥
turned_none n v vb new ids = either (λ (made : Plain × VbReply). (role_result n v new made.1 made.1.answer).ended ≡ Some ids → (id : ℕ) → Has made.0.streams id → ⊥) (is_role vb.role new) (vb, refusal_reply Status.NotMyVbucket) (in_role vb new, ending_reply vb VbAnswer.Done) (λ e id h. let z : None ≡ Some ids = e in cc) (λ e id h. h)

pub follow_ends : (n v : ℕ) (states : States) (shelves : Shelves) (ids : List ℕ) → (after_job (role_at n v admin.Follow) states shelves).1.ended ≡ Some ids → Ends states (after_job (role_at n v admin.Follow) states shelves).0.0 v
follow_ends n v = ends_streams n v admin.Follow tt (λ vb ids e. turned_none n v vb Role.Replica ids e)

pub dead_ends : (n v : ℕ) (states : States) (shelves : Shelves) (ids : List ℕ) → (after_job (role_at n v admin.Dead) states shelves).1.ended ≡ Some ids → Ends states (after_job (role_at n v admin.Dead) states shelves).0.0 v
dead_ends n v = ends_streams n v admin.Dead tt (λ vb ids e. turned_none n v vb Role.Dead ids e)

-- a vBucket that starts on a new branch
start_made : (n v uuid : ℕ) (reply : Option VbReply) → Quiet (bind_job (role_told_job v (call.Promote uuid) reply) (λ made. Ended (start_result n v made)))
start_made n v uuid None = tt
start_made n v uuid (Some reply) = either (λ job. Quiet (bind_job job (λ made. Ended (start_result n v made)))) (is_refusal reply.answer) (Ended (Some reply, wrote.NotAsked)) (AsksCall v call.Log (note_role_job v Role.Active reply)) tt (tt, λ logged any. (tt, λ fate. tt))

pub start_quiet : (n v uuid : ℕ) (states : States) (shelves : Shelves) → NoNew states (after_job (start_job n v uuid) states shelves).0.0
unfolding role_job
start_quiet n v uuid states shelves = after_job_new OpensNone same_call AnyAsk (λ a. Unit {0}) (start_job n v uuid) states shelves (tt, λ reply any. start_made n v uuid reply)
