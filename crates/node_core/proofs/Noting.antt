-- what is told of what is written down
use Rattle.std.proofs.Common.{◌≡◌, ℕ, Bool, true, false, refl, ap, sym, ◌∙◌, subst, Option, Some, None}
use Rattle.std.specs.Prelude.{◌≢◌, ◌↔◌, if◌then◌else◌}
use Rattle.vb_events.specs.declared.event.Answer.{Answer}
use Rattle.vb_events.specs.declared.event.Answer.TheVariants as line
use Rattle.vb_events.specs.declared.event.Cause.TheVariants as cause
use Rattle.vb_types.specs.declared.journal.Batch.{Batch}
use Rattle.vb_types.specs.declared.journal.FlushPart.{FlushPart}
use Rattle.vb_types.specs.declared.journal.FlushPart.TheVariants as part
use Rattle.vb_types.specs.declared.journal.Record.TheVariants.{State}
use Rattle.vb_types.specs.declared.role.Role.{Role}
use Rattle.vb_types.specs.declared.role.Role.TheVariants as role
use Rattle.vb_types.specs.declared.status.Status.{Status}
use Rattle.vb_types.specs.declared.status.Status.TheVariants as status
use Rattle.vb_calls.specs.declared.calls.VbAnswer.{VbAnswer}
use Rattle.vb_calls.specs.declared.calls.VbAnswer.TheVariants as answer
use Rattle.vb_calls.specs.declared.calls.VbCall.{VbCall}
use Rattle.vb_calls.specs.declared.calls.VbCall.TheVariants as call
use Rattle.vb_calls.specs.declared.calls.VbReply.{VbReply}
use Rattle.vb_calls.specs.declared.journals.Flushed.{Flushed}
use Rattle.vb_calls.specs.declared.journals.Flushed.TheVariants as flushed
use Rattle.vb_calls.specs.declared.journals.Wrote.{Wrote}
use Rattle.vb_calls.specs.declared.journals.Wrote.TheVariants as wrote
use Rattle.vb_calls.specs.Flushes.{wrote_of, took, batch_of_reply, done_job, appended_job, append_job, taken_job, save_all_job, part_job, flush_job, is_refusal, log_of_reply, note_role_job, role_of_call, role_told_job, role_job}
use Rattle.vb_calls.specs.Jobs.{Job, Ended, Call, Request, bind_job, RanJob, AlwaysJob}
use Rattle.vb_calls.specs.Programs.{AnyReply}
use Rattle.vb_calls.proofs.JobConduct.{always_bind_job}
use Rattle.vb_calls.specs.Shelves.{Ask, Append, Look, Got, Flush, Idle, Out, Written, Fate, Stood, WasClosed, DiskFailed}
use Rattle.node_core.specs.declared.admin.AdminCall.{AdminCall}
use Rattle.node_core.specs.declared.admin.AdminCall.TheVariants as admin
use Rattle.node_core.specs.Admin.{AdminResult, admin_call, admin_result, promote_cause, promote_result, role_result, noted_answer, role_noted, role_at, admin_job}
use Rattle.node_core.specs.Flushing.{FlushResult, flush_result, flush_at}
use Rattle.node_core.specs.Noting.{Gives, IsRefused, Lacks, IsNoted, ChangesRole, FlushesBy, FlushesAt}

-- ---- roles

-- a reply's answer says nothing of disks
Quiet : Answer → Type 0
Quiet (line.No cause.Closed) = ⊥
Quiet (line.No cause.Disk) = ⊥
Quiet other = Unit {0}

not_closed : (a : Answer) → Quiet a → a ≢ line.No cause.Closed
unfolding Quiet
not_closed a quiet is = subst Quiet is quiet

not_failed : (a : Answer) → Quiet a → a ≢ line.No cause.Disk
unfolding Quiet
not_failed a quiet is = subst Quiet is quiet

quiet_cause : (st : Status) → Quiet (line.No (promote_cause st))
unfolding Quiet
quiet_cause status.Einval = tt
quiet_cause other = tt

quiet_promotion : (n v : ℕ) (r : VbReply) (a : VbAnswer) → Quiet (promote_result n v r a).answer
unfolding Quiet
quiet_promotion n v r (answer.Branch uuid parent fork high) = tt
quiet_promotion n v r (answer.Status st) = quiet_cause st
quiet_promotion n v r other = tt

quiet_role : (n v : ℕ) (new : Role) (r : VbReply) (a : VbAnswer) → Quiet (role_result n v new r a).answer
unfolding Quiet
quiet_role n v new r answer.Done = tt
quiet_role n v new r other = tt

quiet_told : (n v : ℕ) (asked : AdminCall) (new : Role) → Gives asked new → (reply : Option VbReply) → Quiet (admin_result n v asked reply).answer
unfolding Quiet
quiet_told n v asked new gives None = tt
quiet_told n v (admin.Promote uuid) new gives (Some r) = quiet_promotion n v r r.answer
quiet_told n v admin.Follow new gives (Some r) = quiet_role n v role.Replica r r.answer
quiet_told n v admin.Dead new gives (Some r) = quiet_role n v role.Dead r r.answer
quiet_told n v other new gives (Some r) = absurd gives

closed_so : (fate : Fate) (said : Answer) → Quiet said → (noted_answer (wrote_of fate) said ≡ line.No cause.Closed) ↔ (fate ≡ WasClosed)
closed_so Stood said quiet = (λ is. absurd (not_closed said quiet is), λ is. cc)
closed_so WasClosed said quiet = (λ is. refl, λ is. refl)
closed_so DiskFailed said quiet = (λ is. cc, λ is. cc)

failed_so : (fate : Fate) (said : Answer) → Quiet said → (noted_answer (wrote_of fate) said ≡ line.No cause.Disk) ↔ (fate ≡ DiskFailed)
failed_so Stood said quiet = (λ is. absurd (not_failed said quiet is), λ is. cc)
failed_so WasClosed said quiet = (λ is. cc, λ is. cc)
failed_so DiskFailed said quiet = (λ is. refl, λ is. refl)

pub is_status : (a : VbAnswer) → is_refusal a ≡ true → (st : Status) × (a ≡ answer.Status st)
is_status (answer.Status st) is = (st, refl)
is_status other is = cc

pub no_status : (a : VbAnswer) → is_refusal a ≡ false → ((st : Status) × (a ≡ answer.Status st)) → ⊥
no_status a is said = let z : false ≡ true = sym is ∙ ap is_refusal said.1 in cc

given_after : (asked : AdminCall) (new : Role) → Gives asked new → role_of_call (admin_call asked) ≡ new
given_after (admin.Promote uuid) new gives = sym gives
given_after admin.Follow new gives = sym gives
given_after admin.Dead new gives = sym gives
given_after other new gives = absurd gives

pub given_job : (n v : ℕ) (asked : AdminCall) (new : Role) → Gives asked new → admin_job n v asked ≡ role_at n v asked
given_job n v (admin.Promote uuid) new gives = refl
given_job n v admin.Follow new gives = refl
given_job n v admin.Dead new gives = refl
given_job n v other new gives = absurd gives

module _ {W J : Type 0} (step : W → ℕ → VbCall → Option VbReply → W → Type 0) (asks : J → ℕ → (ask : Ask) → Got ask → J → Type 0) where
  -- what comes of a reply
  After : (v : ℕ) (new : Role) (reply : Option VbReply) (mid : W) (kept : J) (told : AdminResult) (now : W) (left : J) → Type 0
  After v new reply mid kept told now left =
      (IsRefused reply → (now ≡ mid) × (left ≡ kept) × (told.answer ≢ line.No cause.Closed) × (told.answer ≢ line.No cause.Disk))
      × ((IsRefused reply → ⊥) → IsNoted step asks v new mid kept told now left)

  module _ (n v : ℕ) (asked : AdminCall) (new : Role) (gives : Gives asked new) where
    comes : Option VbReply × Wrote → Job AdminResult
    comes made = Ended (role_noted n v asked made)

    refused_so : (reply : Option VbReply) (mid : W) (kept : J) (told : AdminResult) (now : W) (left : J) → IsRefused reply
        → told ≡ role_noted n v asked (reply, wrote.NotAsked) → now ≡ mid → left ≡ kept → After v new reply mid kept told now left
    unfolding After
    refused_so reply mid kept told now left refused is same alike =
        let quiet : Quiet told.answer = subst Quiet (sym (ap (λ t. t.answer) is)) (quiet_told n v asked new gives reply) in
        (λ r. (same, alike, not_closed told.answer quiet, not_failed told.answer quiet), λ never. absurd (never refused))

    made_so : (r : VbReply) (mid : W) (kept : J) (told : AdminResult) (now : W) (left : J) (b : Bool) → is_refusal r.answer ≡ b
        → RanJob step asks (bind_job (if b then Ended (Some r, wrote.NotAsked) else Call v call.Log (note_role_job v (role_of_call (admin_call asked)) r)) comes) mid kept told now left
        → After v new (Some r) mid kept told now left
    unfolding After comes
    made_so r mid kept told now left true is ran = refused_so (Some r) mid kept told now left (is_status r.answer is) ran.0 ran.1 ran.2
    made_so r mid kept told now left false is ran =
        let noted = ran.3 in
        let end = noted.3 in
        let said : told.answer ≡ noted_answer (wrote_of noted.0) (admin_result n v asked (Some r)).answer = ap (λ t. t.answer) end.0 in
        let quiet = quiet_told n v asked new gives (Some r) in (
          λ refused. absurd (no_status r.answer is refused),
          λ never. record {
            logged = ran.0;
            tells = subst (λ w. step mid v call.Log ran.0 w) (sym end.1) ran.2;
            fate = noted.0;
            appended = subst (λ j. asks kept v (Append (State new (log_of_reply ran.0))) noted.0 j) (sym end.2)
                (subst (λ role. asks kept v (Append (State role (log_of_reply ran.0))) noted.0 noted.1) (given_after asked new gives) noted.2);
            closed = subst (λ a. (a ≡ line.No cause.Closed) ↔ (noted.0 ≡ WasClosed)) (sym said) (closed_so noted.0 (admin_result n v asked (Some r)).answer quiet);
            failed = subst (λ a. (a ≡ line.No cause.Disk) ↔ (noted.0 ≡ DiskFailed)) (sym said) (failed_so noted.0 (admin_result n v asked (Some r)).answer quiet);
          },
        )

    reply_so : (reply : Option VbReply) (mid : W) (kept : J) (told : AdminResult) (now : W) (left : J)
        → RanJob step asks (bind_job (role_told_job v (admin_call asked) reply) comes) mid kept told now left → After v new reply mid kept told now left
    unfolding comes
    reply_so None mid kept told now left ran = refused_so None mid kept told now left tt ran.0 ran.1 ran.2
    reply_so (Some r) mid kept told now left ran = made_so r mid kept told now left (is_refusal r.answer) refl ran

    given_so : (old : W) (kept : J) (told : AdminResult) (now : W) (left : J) → RanJob step asks (role_at n v asked) old kept told now left → ChangesRole step asks v asked new old kept told now left
    unfolding role_job comes After
    given_so old kept told now left ran =
        let after = reply_so ran.0 ran.1 kept told now left ran.3 in
        record { reply = ran.0; mid = ran.1; called = ran.2; refused = after.0; made = after.1 }

  pub roles_are_noted : (n v : ℕ) (asked : AdminCall) (new : Role) (old : W) (kept : J) (told : AdminResult) (now : W) (left : J) → Gives asked new
      → RanJob step asks (admin_job n v asked) old kept told now left → ChangesRole step asks v asked new old kept told now left
  roles_are_noted n v asked new old kept told now left gives ran =
      given_so n v asked new gives old kept told now left (subst (λ job. RanJob step asks job old kept told now left) (given_job n v asked new gives) ran)

-- ---- steps of writing down

-- which refusal a step came to: 1 where a batch is on its way, 2 where none is
kind : Flushed → ℕ
kind flushed.BatchOut = 1
kind flushed.NothingTaken = 2
kind other = 0

-- by the batch that is on its way
kind_by : FlushPart → Flush → ℕ
kind_by part.Take Idle = 0
kind_by part.Take other = 1
kind_by part.Save (Out batch) = 0
kind_by part.Save other = 2
kind_by part.Done (Written seq) = 0
kind_by part.Done other = 2
kind_by part.All flush = 0

-- of an answer, with 3 where there is no such vBucket
kind_said : Answer → ℕ
kind_said (line.No cause.BatchOut) = 1
kind_said (line.No cause.NothingTaken) = 2
kind_said (line.No cause.UnknownVb) = 3
kind_said other = 0

kinds_told : (n v : ℕ) (came : Flushed) → kind_said (flush_result n v came).answer ≡ kind came
unfolding kind kind_said
kinds_told n v (flushed.Took ss se at count) = refl
kinds_told n v flushed.Saved = refl
kinds_told n v (flushed.Done reply) = refl
kinds_told n v flushed.BatchOut = refl
kinds_told n v flushed.NothingTaken = refl
kinds_told n v flushed.Closed = refl
kinds_told n v flushed.DiskFailed = refl

abbrev AnyAt : {T : Type 0} → ℕ → T → Type 0
AnyAt v t = Unit {0}

-- whatever is replied, a step comes to such a refusal
Comes : ℕ → Job Flushed → Type 0
Comes k job = AlwaysJob AnyReply AnyAt AnyAt (λ came. kind came ≡ k) job

module _ (v : ℕ) where
  taken_comes : (next : Batch → Job Flushed) → ((batch : Batch) → Comes 0 (next batch)) → (o : Option Batch) → Comes 0 (taken_job v next o)
  unfolding Comes kind
  taken_comes next so None = refl
  taken_comes next so (Some batch) = (tt, λ got. so batch)

  appended_comes : (batch : Batch) (next : Job Flushed) → Comes 0 next → (fate : Fate) → Comes 0 (appended_job v batch next fate)
  unfolding Comes kind
  appended_comes batch next so Stood = (tt, λ got. so)
  appended_comes batch next so WasClosed = (tt, λ got. refl)
  appended_comes batch next so DiskFailed = (tt, λ got. refl)

  append_comes : (batch : Batch) (next : Job Flushed) → Comes 0 next → Comes 0 (append_job v batch next)
  unfolding Comes kind
  append_comes batch next so = (tt, λ fate. appended_comes batch next so fate)

  done_comes : (seq : ℕ) → Comes 0 (done_job v seq)
  unfolding Comes kind
  done_comes seq = (tt, λ got. (tt, λ reply any. refl))

  part_comes : (p : FlushPart) (flush : Flush) → Comes (kind_by p flush) (part_job v p flush)
  unfolding Comes kind kind_by
  part_comes part.Take Idle = (tt, λ reply any. taken_comes (λ batch. Ended (took batch)) (λ batch. refl) (batch_of_reply reply))
  part_comes part.Take (Out batch) = refl
  part_comes part.Take (Written seq) = refl
  part_comes part.Save Idle = refl
  part_comes part.Save (Out batch) = append_comes batch (Ended flushed.Saved) refl
  part_comes part.Save (Written seq) = refl
  part_comes part.Done Idle = refl
  part_comes part.Done (Out batch) = refl
  part_comes part.Done (Written seq) = done_comes seq
  part_comes part.All Idle = (tt, λ reply any. taken_comes (save_all_job v) (λ batch. append_comes batch (done_job v batch.position.at) (done_comes batch.position.at)) (batch_of_reply reply))
  part_comes part.All (Out batch) = append_comes batch (done_job v batch.position.at) (done_comes batch.position.at)
  part_comes part.All (Written seq) = done_comes seq

said_out : (a : Answer) → kind_said a ≡ 1 → a ≡ line.No cause.BatchOut
unfolding kind_said
said_out (line.No cause.BatchOut) is = refl
said_out other is = cc

said_lacking : (a : Answer) → kind_said a ≡ 2 → a ≡ line.No cause.NothingTaken
unfolding kind_said
said_lacking (line.No cause.NothingTaken) is = refl
said_lacking other is = cc

is_kind : (k : ℕ) (one a : Answer) → a ≡ one → kind_said one ≡ k → kind_said a ≡ k
is_kind k one a same is = ap kind_said same ∙ is

out_by : (p : FlushPart) (flush : Flush) → (kind_by p flush ≡ 1) ↔ ((p ≡ part.Take) × (flush ≢ Idle))
unfolding kind_by
out_by part.Take Idle = (λ is. cc, λ so. absurd (so.1 refl))
out_by part.Take (Out batch) = (λ is. (refl, λ same. cc), λ so. refl)
out_by part.Take (Written seq) = (λ is. (refl, λ same. cc), λ so. refl)
out_by part.Save Idle = (λ is. cc, λ so. let e = so.0 in cc)
out_by part.Save (Out batch) = (λ is. cc, λ so. let e = so.0 in cc)
out_by part.Save (Written seq) = (λ is. cc, λ so. let e = so.0 in cc)
out_by part.Done Idle = (λ is. cc, λ so. let e = so.0 in cc)
out_by part.Done (Out batch) = (λ is. cc, λ so. let e = so.0 in cc)
out_by part.Done (Written seq) = (λ is. cc, λ so. let e = so.0 in cc)
out_by part.All flush = (λ is. cc, λ so. let e = so.0 in cc)

lacks_by : (p : FlushPart) (flush : Flush) → (kind_by p flush ≡ 2) ↔ Lacks p flush
unfolding kind_by
lacks_by part.Take Idle = (λ is. cc, λ so. absurd so)
lacks_by part.Take (Out batch) = (λ is. cc, λ so. absurd so)
lacks_by part.Take (Written seq) = (λ is. cc, λ so. absurd so)
lacks_by part.Save Idle = (λ is. λ batch same. cc, λ so. refl)
lacks_by part.Save (Out batch) = (λ is. cc, λ so. absurd (so batch refl))
lacks_by part.Save (Written seq) = (λ is. λ batch same. cc, λ so. refl)
lacks_by part.Done Idle = (λ is. λ seq same. cc, λ so. refl)
lacks_by part.Done (Out batch) = (λ is. λ seq same. cc, λ so. refl)
lacks_by part.Done (Written seq) = (λ is. cc, λ so. absurd (so seq refl))
lacks_by part.All flush = (λ is. cc, λ so. absurd so)

-- by the kind of what was told
noted_by_kind : {J : Type 0} (asks : J → ℕ → (ask : Ask) → Got ask → J → Type 0) (v : ℕ) (p : FlushPart) (flush : Flush) (kept shown : J) (told : FlushResult)
    → asks kept v Look flush shown → kind_said told.answer ≡ kind_by p flush → FlushesBy asks v p kept told
unfolding kind_said
noted_by_kind asks v p flush kept shown told looked is = record {
  flush = flush;
  shown = shown;
  looked = looked;
  out = (λ said. (out_by p flush).0 (sym is ∙ is_kind 1 (line.No cause.BatchOut) told.answer said refl), λ so. said_out told.answer (is ∙ (out_by p flush).1 so));
  lacking = (λ said. (lacks_by p flush).0 (sym is ∙ is_kind 2 (line.No cause.NothingTaken) told.answer said refl), λ so. said_lacking told.answer (is ∙ (lacks_by p flush).1 so));
}

-- no step that was made is refused for want of a vBucket
there_by : (p : FlushPart) (flush : Flush) → kind_by p flush ≡ 3 → ⊥
unfolding kind_by
there_by part.Take Idle is = cc
there_by part.Take (Out batch) is = cc
there_by part.Take (Written seq) is = cc
there_by part.Save Idle is = cc
there_by part.Save (Out batch) is = cc
there_by part.Save (Written seq) is = cc
there_by part.Done Idle is = cc
there_by part.Done (Out batch) is = cc
there_by part.Done (Written seq) is = cc
there_by part.All flush is = cc

-- whatever is replied, a step tells of such a refusal
tells_by : (n v : ℕ) (p : FlushPart) (flush : Flush)
    → AlwaysJob AnyReply AnyAt AnyAt (λ (told : FlushResult). kind_said told.answer ≡ kind_by p flush) (bind_job (part_job v p flush) (λ came. Ended (flush_result n v came)))
unfolding Comes
tells_by n v p flush =
    always_bind_job AnyReply AnyAt AnyAt (λ came. kind came ≡ kind_by p flush) (λ (told : FlushResult). kind_said told.answer ≡ kind_by p flush) (part_job v p flush) (λ came. Ended (flush_result n v came))
    (part_comes v p flush) (λ came is. kinds_told n v came ∙ is)

module _ {W J : Type 0} (step : W → ℕ → VbCall → Option VbReply → W → Type 0) (asks : J → ℕ → (ask : Ask) → Got ask → J → Type 0) where
  -- what always holds of a job's answer holds where it ran
  ran_always : {A : Type 0} (answers : A → Type 0) (job : Job A) (old : W) (kept : J) (a : A) (now : W) (left : J) → AlwaysJob AnyReply AnyAt AnyAt answers job → RanJob step asks job old kept a now left → answers a
  ran_always answers (Ended x) old kept a now left always ran = subst answers (sym ran.0) always
  ran_always answers (Call v call next) old kept a now left always ran = ran_always answers (next ran.0) ran.1 kept a now left (always.1 ran.0 tt) ran.3
  ran_always answers (Request v ask next) old kept a now left always ran = ran_always answers (next ran.0) old ran.1 a now left (always.1 ran.0) ran.3

  module _ (n v : ℕ) (p : FlushPart) where
    pub flushes_are_refused : (there : Bool) (old : W) (kept : J) (told : FlushResult) (now : W) (left : J) → RanJob step asks (flush_at n v p there) old kept told now left → FlushesAt asks there v p old kept told now left
    unfolding flush_job kind_said
    flushes_are_refused false old kept told now left ran = record {
      absent = (λ said. refl, λ none. ap (λ t. t.answer) ran.0);
      silent = λ none. (ran.1, ran.2);
      made = λ some. cc;
    }
    flushes_are_refused true old kept told now left ran =
        let is : kind_said told.answer ≡ kind_by p ran.0 =
        ran_always (λ (t : FlushResult). kind_said t.answer ≡ kind_by p ran.0) (bind_job (part_job v p ran.0) (λ came. Ended (flush_result n v came))) old ran.1 told now left (tells_by n v p ran.0) ran.3 in
        record {
          absent = (λ said. absurd (there_by p ran.0 (sym is ∙ is_kind 3 (line.No cause.UnknownVb) told.answer said refl)), λ none. cc);
          silent = λ none. cc;
          made = λ some. noted_by_kind asks v p ran.0 kept ran.1 told ran.2 is;
        }
