-- lines of operators tell nothing of the connections of clients, of a call that failed, and of a node that stopped, whatever the replies of vBuckets and journals
use Rattle.std.specs.Prelude.{◌≡◌, ◌∷◌, ◌==◌}
use Rattle.transcript_law.proofs.Words.{ℕ, [], sym, subst, map, Option, Some, None, Event, Role, AdminCall, AdminResult, PlainNode, VbAnswer, VbCall, VbReply}
use Rattle.transcript_law.proofs.Words.{admin_call, admin_replied, admin_result, branch_lines, call_at, called_at, document_line, image_lines, prepare_line}
use Rattle.transcript_law.proofs.Words.{after_job}
use Rattle.node_core.specs.{Calls.{own_lines, own_lines_if}, Admin.{admin_at, admin_job, role_at, role_noted}, Flushing.{FlushResult, flush_result, settled_by, settled_result}}
use Rattle.node_world.specs.{Arms.{placed}}
use Rattle.std.specs.FinMap as finite
use Rattle.vb_calls.proofs.JobConduct.{after_job_always, always_bind_job}
use Rattle.vb_calls.specs.Flushes.{part_job, role_job}
use Rattle.vb_calls.specs.Jobs.{Job, Ended, lift}
use Rattle.vb_calls.specs.Programs.{AnyCall, AnyReply}
use Rattle.vb_calls.specs.declared.calls.VbAnswer.TheVariants as answer
use Rattle.vb_calls.specs.declared.journals.Flushed.{Flushed}
use Rattle.vb_calls.specs.declared.journals.Flushed.TheVariants as flushed
use Rattle.vb_types.specs.Images.{Picture}
use Rattle.vb_types.specs.declared.journal.FlushPart.{FlushPart}
use Rattle.transcript_law.proofs.{lines.Calm.{AnyAsk, any_job, either}, verbs.FiredLines.{flush_steps}}
use Rattle.transcript_law.proofs.lines.Heard.{AreMute, mute_map, mute_more}
use Rattle.node_core.specs.Loading.{branch_in, branch_lines_of_reply, start_job, start_result}
use Rattle.node_world.specs.Power.{start_one}
use Rattle.node_world.specs.Nodes.{flush_here}

-- ---- operators' calls

image_mute : (image : Picture) → AreMute (image_lines image)
image_mute image = mute_more (map document_line (finite.entries image.docs)) (map prepare_line (finite.entries image.pending)) (mute_map document_line (finite.entries image.docs) (λ x. tt)) (mute_map prepare_line (finite.entries image.pending) (λ x. tt))

-- changes that a vBucket makes at once
own_mute : (n v : ℕ) (reply : VbReply) → AreMute (own_lines n v reply)
own_mute n v reply = mute_map (Event.Changed n v reply.branch) reply.changes (λ c. tt)

own_mute_if : (n v : ℕ) (o : Option VbReply) → AreMute (own_lines_if n v o)
own_mute_if n v None = tt
own_mute_if n v (Some reply) = own_mute n v reply

-- whatever the vBucket replied
call_mute : (n v : ℕ) (asked : AdminCall) (o : Option VbReply) → AreMute (admin_result n v asked o).events
call_mute n v asked None = tt
call_mute n v asked (Some reply) = by asked reply.answer
  where
    by : (asked : AdminCall) (a : VbAnswer) → AreMute (admin_replied n v asked (record reply { answer = a })).events
    by (AdminCall.Promote uuid) (answer.Branch u parent fork high) = (tt, (tt, own_mute n v reply))
    by (AdminCall.Promote uuid) other = tt
    by AdminCall.Follow answer.Done = (tt, tt)
    by AdminCall.Follow other = tt
    by AdminCall.Dead answer.Done = (tt, tt)
    by AdminCall.Dead other = tt
    by AdminCall.Trim (answer.Num removed) = tt
    by AdminCall.Trim other = tt
    by AdminCall.Seal (answer.Flag sealed) = tt
    by AdminCall.Seal other = tt
    by AdminCall.Stat (answer.Stat windows items cursors saved high) = (tt, tt)
    by AdminCall.Stat other = tt
    by AdminCall.Show (answer.Shown role uuid ss se at image) = (tt, image_mute image)
    by AdminCall.Show other = tt
    by AdminCall.Log (answer.Logged log) = (tt, tt)
    by AdminCall.Log other = tt

-- a call that keeps its vBucket's role
pub kept_mute : (n v : ℕ) (asked : AdminCall) (node : PlainNode) → admin_job n v asked ≡ lift (admin_at n v asked) → AreMute (called_at n v asked node).1.events
kept_mute n v asked node job = subst (λ (j : Job AdminResult). AreMute (after_job j node.vbs node.shelves).1.events) (sym job) (call_mute n v asked (call_at node.vbs v (admin_call asked) (node.vbs v)).1)

-- and one that changes it
pub role_mute : (n v : ℕ) (asked : AdminCall) (node : PlainNode) → admin_job n v asked ≡ role_at n v asked → AreMute (called_at n v asked node).1.events
role_mute n v asked node job = subst (λ (j : Job AdminResult). AreMute (after_job j node.vbs node.shelves).1.events) (sym job)
    (after_job_always AnyCall AnyAsk (λ (told : AdminResult). AreMute told.events) (role_at n v asked) node.vbs node.shelves
    (always_bind_job AnyReply AnyCall AnyAsk (λ made. Unit {0}) (λ (told : AdminResult). AreMute told.events) (role_job v (admin_call asked)) (λ made. Ended (role_noted n v asked made)) (any_job (role_job v (admin_call asked))) (λ made any. call_mute n v asked made.0)))

-- ---- what is written down, and what is told of vBuckets that are made, that start, and that resolve durable writes

flushed_mute : (n v : ℕ) (came : Flushed) → AreMute (flush_result n v came).events
flushed_mute n v (flushed.Took ss se at count) = either AreMute (count == 0) [] (Event.Batch n v ss se at count ∷ []) tt (tt, tt)
flushed_mute n v (flushed.Done reply) = own_mute_if n v reply
flushed_mute n v other = tt

pub flush_mute : (n v : ℕ) (p : FlushPart) (node : PlainNode) → AreMute (after_job (flush_here n v p node) node.vbs node.shelves).1.events
flush_mute n v p node = flush_steps (λ told. AreMute told.events) (λ came. Unit {0}) n v p node tt (λ came any. flushed_mute n v came) (λ flush. any_job (part_job v p flush))

pub branch_mute : (n v : ℕ) (role : Role) (uuid : ℕ) → AreMute (branch_lines n v role uuid)
branch_mute n v Role.Active uuid = (tt, (tt, tt))
branch_mute n v other uuid = (tt, tt)

started_mute : (n v : ℕ) (o : Option VbReply) → AreMute (branch_lines_of_reply n v o)
started_mute n v None = tt
started_mute n v (Some reply) = mute_more (branch_in n v reply.answer) (own_lines n v reply) (by reply.answer) (own_mute n v reply)
  where
    by : (a : VbAnswer) → AreMute (branch_in n v a)
    by (answer.Branch uuid parent fork high) = (tt, tt)
    by other = tt

pub start_mute : (n : ℕ) (start : ℕ × ℕ) (node : PlainNode) → AreMute (start_one n start node).1.events
start_mute n start node =
    let at : PlainNode = placed start.0 node in
    after_job_always AnyCall AnyAsk (λ (told : FlushResult). AreMute told.events) (start_job n start.0 start.1) at.vbs at.shelves
    (always_bind_job AnyReply AnyCall AnyAsk (λ made. Unit {0}) (λ (told : FlushResult). AreMute told.events) (role_job start.0 (VbCall.Promote start.1)) (λ made. Ended (start_result n start.0 made)) (any_job (role_job start.0 (VbCall.Promote start.1))) (λ made any. started_mute n start.0 made.0))

pub settled_mute : (n v : ℕ) (o : Option VbReply) → AreMute (settled_result n v o).events
settled_mute n v None = tt
settled_mute n v (Some reply) = by reply.answer
  where
    by : (a : VbAnswer) → AreMute (settled_by n v reply a).events
    by answer.Done = own_mute n v reply
    by other = tt
