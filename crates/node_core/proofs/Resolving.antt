-- what is told of durable writes
use Rattle.std.proofs.Common.{◌≡◌, ℕ, Bool, true, false, [], map, refl, ap, sym, ◌∙◌, subst, inl, inr, Option, Some, None}
use Rattle.std.specs.Prelude.{if◌then◌else◌}
use Rattle.durability.specs.Chains.{Links}
use Rattle.vb_events.specs.declared.event.Answer.TheVariants as line
use Rattle.vb_events.specs.declared.event.Cause.{Cause}
use Rattle.vb_events.specs.declared.event.Cause.TheVariants as cause
use Rattle.vb_events.specs.declared.event.Event.TheVariants as event
use Rattle.vb_types.specs.declared.journal.Batch.{Batch}
use Rattle.vb_types.specs.declared.journal.FlushPart.{FlushPart}
use Rattle.vb_types.specs.declared.journal.FlushPart.TheVariants as part
use Rattle.vb_types.specs.declared.role.Role.{Role}
use Rattle.vb_types.specs.declared.role.Role.TheVariants as role
use Rattle.vb_types.specs.declared.status.Status.{Status}
use Rattle.vb_calls.specs.declared.calls.VbAnswer.{VbAnswer}
use Rattle.vb_calls.specs.declared.calls.VbAnswer.TheVariants as answer
use Rattle.vb_calls.specs.declared.calls.VbCall.{VbCall}
use Rattle.vb_calls.specs.declared.calls.VbCall.TheVariants as call
use Rattle.vb_calls.specs.declared.calls.VbReply.{VbReply}
use Rattle.vb_calls.specs.declared.journals.Flushed.{Flushed}
use Rattle.vb_calls.specs.declared.journals.Flushed.TheVariants as flushed
use Rattle.vb_calls.specs.declared.journals.Wrote.{Wrote}
use Rattle.vb_calls.specs.declared.journals.Wrote.TheVariants as wrote
use Rattle.vb_calls.specs.Flushes.{append_job, appended_job, batch_of_reply, done_job, finish_job, flush_job, is_refusal, note_role_job, part_job, role_of_call, role_job, role_told_job, save_all_job, taken_job, took}
use Rattle.vb_calls.specs.Forms.{HasForm}
use Rattle.vb_calls.specs.Jobs.{Job, Ended, Call, bind_job, RanJob}
use Rattle.vb_calls.specs.Programs.{IsReply, Ran}
use Rattle.vb_calls.specs.Shelves.{Ask, Got, Flush, Idle, Out, Written, Fate, Stood, WasClosed, DiskFailed}
use Rattle.node_core.specs.declared.admin.AdminCall.{AdminCall}
use Rattle.node_core.specs.declared.admin.AdminCall.TheVariants as admin
use Rattle.node_core.specs.Admin.{AdminResult, admin_call, admin_result, admin_job, promote_result, role_at, role_noted, role_result}
use Rattle.node_core.specs.Flushing.{FlushResult, chain_changed, flush_at, flush_result, resolved_in, settled_by, settled_result, ticked}
use Rattle.node_core.specs.Noting.{Gives, IsRefused}
use Rattle.node_core.specs.Resolving.{HandsOver, TellsSettled, RoleHandsOver, Finished, StepHandsOver, DoneHandsOver, Settled}
use Rattle.node_core.proofs.Noting.{given_job}

-- ---- replies

-- no call that was made is refused
not_refused : (r : VbReply) (a : VbAnswer) → r.answer ≡ a → is_refusal a ≡ false → IsRefused (Some r) → ⊥
not_refused r a is fine so = let e : true ≡ false = ap is_refusal (sym so.1 ∙ is) ∙ fine in cc

over_none : HandsOver None []
over_none = record { refused = λ so. refl; made = λ r same there. absurd (there tt) }

over_made : (r : VbReply) → (IsRefused (Some r) → ⊥) → HandsOver (Some r) r.resolved
over_made r fine = record { refused = λ so. absurd (fine so); made = λ other same there. cc }

over_refused : (r : VbReply) (st : Status) → r.answer ≡ answer.Status st → HandsOver (Some r) []
over_refused r st is = record { refused = λ so. refl; made = λ other same there. absurd (there (st, is)) }

-- ---- roles

promotion_over : (n v uuid : ℕ) (r : VbReply) (a : VbAnswer) → r.answer ≡ a → HasForm (call.Promote uuid) a → HandsOver (Some r) (promote_result n v r a).resolved
promotion_over n v uuid r (answer.Branch id parent fork high) is form = over_made r (not_refused r (answer.Branch id parent fork high) is refl)
promotion_over n v uuid r (answer.Status st) is form = over_refused r st is
promotion_over n v uuid r other is form = absurd form

-- an answer to a call that is made or not
IsPlain : VbAnswer → Type 0
IsPlain answer.Done = Unit {0}
IsPlain (answer.Status st) = Unit {0}
IsPlain other = ⊥

follow_plain : (a : VbAnswer) → HasForm call.Follow a → IsPlain a
unfolding IsPlain
follow_plain answer.Done form = tt
follow_plain (answer.Status st) form = tt
follow_plain other form = absurd form

dead_plain : (a : VbAnswer) → HasForm call.Dead a → IsPlain a
unfolding IsPlain
dead_plain answer.Done form = tt
dead_plain (answer.Status st) form = tt
dead_plain other form = absurd form

chain_plain : (links : Links) (a : VbAnswer) → HasForm (call.Chain links) a → IsPlain a
unfolding IsPlain
chain_plain links answer.Done form = tt
chain_plain links (answer.Status st) form = tt
chain_plain links other form = absurd form

tick_plain : (clock : ℕ) (a : VbAnswer) → HasForm (call.Tick clock) a → IsPlain a
unfolding IsPlain
tick_plain clock answer.Done form = tt
tick_plain clock (answer.Status st) form = tt
tick_plain clock other form = absurd form

role_over : (n v : ℕ) (new : Role) (r : VbReply) (a : VbAnswer) → r.answer ≡ a → IsPlain a → HandsOver (Some r) (role_result n v new r a).resolved
unfolding IsPlain
role_over n v new r answer.Done is plain = over_made r (not_refused r answer.Done is refl)
role_over n v new r (answer.Status st) is plain = over_refused r st is
role_over n v new r other is plain = absurd plain

given_over : (n v : ℕ) (asked : AdminCall) (new : Role) → Gives asked new → (reply : Option VbReply) → IsReply (admin_call asked) reply → HandsOver reply (admin_result n v asked reply).resolved
given_over n v asked new gives None form = over_none
given_over n v (admin.Promote uuid) new gives (Some r) form = promotion_over n v uuid r r.answer refl form
given_over n v admin.Follow new gives (Some r) form = role_over n v role.Replica r r.answer refl (follow_plain r.answer form)
given_over n v admin.Dead new gives (Some r) form = role_over n v role.Dead r r.answer refl (dead_plain r.answer form)
given_over n v other new gives (Some r) form = absurd gives

module _ {W J : Type 0} (step : W → ℕ → VbCall → Option VbReply → W → Type 0) (asks : J → ℕ → (ask : Ask) → Got ask → J → Type 0) where
  module _ (n v : ℕ) (asked : AdminCall) where
    comes : Option VbReply × Wrote → Job AdminResult
    comes made = Ended (role_noted n v asked made)

    made_resolved : (r : VbReply) (mid : W) (kept : J) (told : AdminResult) (now : W) (left : J) (b : Bool)
        → RanJob step asks (bind_job (if b then Ended (Some r, wrote.NotAsked) else Call v call.Log (note_role_job v (role_of_call (admin_call asked)) r)) comes) mid kept told now left
        → told.resolved ≡ (admin_result n v asked (Some r)).resolved
    unfolding comes
    made_resolved r mid kept told now left true ran = ap (λ t. t.resolved) ran.0
    made_resolved r mid kept told now left false ran = ap (λ t. t.resolved) ran.3.3.0

    reply_resolved : (reply : Option VbReply) (mid : W) (kept : J) (told : AdminResult) (now : W) (left : J)
        → RanJob step asks (bind_job (role_told_job v (admin_call asked) reply) comes) mid kept told now left → told.resolved ≡ (admin_result n v asked reply).resolved
    unfolding comes
    reply_resolved None mid kept told now left ran = ap (λ t. t.resolved) ran.0
    reply_resolved (Some r) mid kept told now left ran = made_resolved r mid kept told now left (is_refusal r.answer) ran

    role_so : (new : Role) → Gives asked new → (old : W) (kept : J) (told : AdminResult) (now : W) (left : J) → RanJob step asks (role_at n v asked) old kept told now left → RoleHandsOver step v asked old told
    unfolding role_job comes
    role_so new gives old kept told now left ran = record {
      reply = ran.0;
      mid = ran.1;
      called = ran.2;
      outcomes = λ form. subst (HandsOver ran.0) (sym (reply_resolved ran.0 ran.1 kept told now left ran.3)) (given_over n v asked new gives ran.0 form);
    }

  pub roles_hand_over : (n v : ℕ) (asked : AdminCall) (new : Role) (old : W) (kept : J) (told : AdminResult) (now : W) (left : J) → Gives asked new
      → RanJob step asks (admin_job n v asked) old kept told now left → RoleHandsOver step v asked old told
  roles_hand_over n v asked new old kept told now left gives ran =
      role_so n v asked new gives old kept told now left (subst (λ job. RanJob step asks job old kept told now left) (given_job n v asked new gives) ran)

-- ---- dones

finished_over : (seq : ℕ) (r : VbReply) (a : VbAnswer) → r.answer ≡ a → HasForm (call.FlushDone seq) a → HandsOver (Some r) r.resolved
finished_over seq r (answer.Num saved) is form = over_made r (not_refused r (answer.Num saved) is refl)
finished_over seq r other is form = absurd form

done_over : (seq : ℕ) (reply : Option VbReply) → IsReply (call.FlushDone seq) reply → HandsOver reply (resolved_in reply)
done_over seq None form = over_none
done_over seq (Some r) form = finished_over seq r r.answer refl form

module _ {W J : Type 0} (step : W → ℕ → VbCall → Option VbReply → W → Type 0) (asks : J → ℕ → (ask : Ask) → Got ask → J → Type 0) (n v : ℕ) where
  -- what a step comes to is told
  TellsOf : Job Flushed → W → J → FlushResult → W → J → Type 0
  TellsOf job mid kept told now left = RanJob step asks (bind_job job (λ came. Ended (flush_result n v came))) mid kept told now left

  is_finished : (seq : ℕ) (mid : W) (kept : J) (told : FlushResult) (now : W) (left : J) → TellsOf (done_job v seq) mid kept told now left → Finished step v told now
  unfolding TellsOf
  is_finished seq mid kept told now left ran =
      let called = ran.3 in
      let end = called.3 in record {
        seq = seq;
        mid = mid;
        reply = called.0;
        called = subst (λ w. step mid v (call.FlushDone seq) called.0 w) (sym end.1) called.2;
        outcomes = λ form. subst (HandsOver called.0) (sym (ap (λ t. t.resolved) end.0)) (done_over seq called.0 form);
      }

  -- no done is refused
  is_fine : (seq : ℕ) (mid : W) (kept : J) (told : FlushResult) (now : W) (left : J) (why : Cause) → TellsOf (done_job v seq) mid kept told now left → told.answer ≡ line.No why → ⊥
  unfolding TellsOf
  is_fine seq mid kept told now left why ran is = let e : (flush_result n v (flushed.Done ran.3.0)).answer ≡ line.No why = sym (ap (λ t. t.answer) ran.3.3.0) ∙ is in cc

  refused_done : (told : FlushResult) (now : W) (why : Cause) → told.answer ≡ line.No why → told.resolved ≡ [] → DoneHandsOver step v told now
  refused_done told now why said none = record { refused = λ other is. none; made = λ fine. absurd (fine why said) }

  after_look : (flush : Flush) (mid : W) (kept : J) (told : FlushResult) (now : W) (left : J) → TellsOf (finish_job v flush) mid kept told now left → DoneHandsOver step v told now
  unfolding TellsOf
  after_look Idle mid kept told now left ran = refused_done told now cause.NothingTaken (ap (λ t. t.answer) ran.0) (ap (λ t. t.resolved) ran.0)
  after_look (Out batch) mid kept told now left ran = refused_done told now cause.NothingTaken (ap (λ t. t.answer) ran.0) (ap (λ t. t.resolved) ran.0)
  after_look (Written seq) mid kept told now left ran = record {
    refused = λ why is. absurd (is_fine seq mid kept told now left why ran is);
    made = λ fine. is_finished seq mid kept told now left ran;
  }

  pub dones_hand_over : (there : Bool) (old : W) (kept : J) (told : FlushResult) (now : W) (left : J) → RanJob step asks (flush_at n v part.Done there) old kept told now left → DoneHandsOver step v told now
  unfolding flush_job TellsOf
  dones_hand_over false old kept told now left ran = refused_done told now cause.UnknownVb (ap (λ t. t.answer) ran.0) (ap (λ t. t.resolved) ran.0)
  dones_hand_over true old kept told now left ran = after_look ran.0 old ran.1 told now left ran.3

  -- what is to be done behind an append
  Behind : Job Flushed → W → FlushResult → W → J → Type 0
  Behind next mid told now left = (kept : J) → TellsOf next mid kept told now left → StepHandsOver step v told now

  fate_over : (batch : Batch) (next : Job Flushed) (fate : Fate) (mid : W) (kept : J) (told : FlushResult) (now : W) (left : J) → Behind next mid told now left
      → TellsOf (appended_job v batch next fate) mid kept told now left → StepHandsOver step v told now
  unfolding TellsOf Behind
  fate_over batch next Stood mid kept told now left so ran = so ran.1 ran.3
  fate_over batch next WasClosed mid kept told now left so ran = inl (ap (λ t. t.resolved) ran.3.0)
  fate_over batch next DiskFailed mid kept told now left so ran = inl (ap (λ t. t.resolved) ran.3.0)

  append_over : (batch : Batch) (next : Job Flushed) (mid : W) (kept : J) (told : FlushResult) (now : W) (left : J) → Behind next mid told now left
      → TellsOf (append_job v batch next) mid kept told now left → StepHandsOver step v told now
  unfolding TellsOf
  append_over batch next mid kept told now left so ran = fate_over batch next ran.0 mid ran.1 told now left so ran.3

  save_over : (batch : Batch) (mid : W) (kept : J) (told : FlushResult) (now : W) (left : J) → TellsOf (save_all_job v batch) mid kept told now left → StepHandsOver step v told now
  unfolding Behind
  save_over batch mid kept told now left ran =
      append_over batch (done_job v batch.position.at) mid kept told now left (λ before done. inr (is_finished batch.position.at mid before told now left done)) ran

  took_over : (next : Batch → Job Flushed) (o : Option Batch) (mid : W) (kept : J) (told : FlushResult) (now : W) (left : J) → ((batch : Batch) → Behind (next batch) mid told now left)
      → TellsOf (taken_job v next o) mid kept told now left → StepHandsOver step v told now
  unfolding TellsOf Behind
  took_over next None mid kept told now left so ran = inl (ap (λ t. t.resolved) ran.0)
  took_over next (Some batch) mid kept told now left so ran = so batch ran.1 ran.3

  part_over : (p : FlushPart) (flush : Flush) (mid : W) (kept : J) (told : FlushResult) (now : W) (left : J) → TellsOf (part_job v p flush) mid kept told now left → StepHandsOver step v told now
  unfolding TellsOf Behind
  part_over part.Take Idle mid kept told now left ran =
      took_over (λ batch. Ended (took batch)) (batch_of_reply ran.0) ran.1 kept told now left (λ batch before end. inl (ap (λ t. t.resolved) end.0)) ran.3
  part_over part.Take (Out batch) mid kept told now left ran = inl (ap (λ t. t.resolved) ran.0)
  part_over part.Take (Written seq) mid kept told now left ran = inl (ap (λ t. t.resolved) ran.0)
  part_over part.Save Idle mid kept told now left ran = inl (ap (λ t. t.resolved) ran.0)
  part_over part.Save (Out batch) mid kept told now left ran = append_over batch (Ended flushed.Saved) mid kept told now left (λ before end. inl (ap (λ t. t.resolved) end.0)) ran
  part_over part.Save (Written seq) mid kept told now left ran = inl (ap (λ t. t.resolved) ran.0)
  part_over part.Done Idle mid kept told now left ran = inl (ap (λ t. t.resolved) ran.0)
  part_over part.Done (Out batch) mid kept told now left ran = inl (ap (λ t. t.resolved) ran.0)
  part_over part.Done (Written seq) mid kept told now left ran = inr (is_finished seq mid kept told now left ran)
  part_over part.All Idle mid kept told now left ran =
      took_over (save_all_job v) (batch_of_reply ran.0) ran.1 kept told now left (λ batch before save. save_over batch ran.1 before told now left save) ran.3
  part_over part.All (Out batch) mid kept told now left ran = save_over batch mid kept told now left ran
  part_over part.All (Written seq) mid kept told now left ran = inr (is_finished seq mid kept told now left ran)

  pub steps_hand_over : (p : FlushPart) (there : Bool) (old : W) (kept : J) (told : FlushResult) (now : W) (left : J) → RanJob step asks (flush_at n v p there) old kept told now left → StepHandsOver step v told now
  unfolding flush_job TellsOf
  steps_hand_over p false old kept told now left ran = inl (ap (λ t. t.resolved) ran.0)
  steps_hand_over p true old kept told now left ran = part_over p ran.0 old ran.1 told now left ran.3

-- ---- chains and ticks

settled_so : (n v : ℕ) (r : VbReply) (a : VbAnswer) → r.answer ≡ a → IsPlain a → TellsSettled n v (Some r) (settled_by n v r a)
unfolding IsPlain
settled_so n v r answer.Done is plain =
    let fine = not_refused r answer.Done is refl in record {
      unknown = (λ said. cc, λ none. cc);
      wrong = (λ said. cc, λ so. absurd (fine so.1));
      silent = λ so. absurd (fine so);
      lines = λ other same there. let e : r ≡ other = cc in ap (λ (o : VbReply). map (event.Changed n v o.branch) o.changes) e;
      outcomes = over_made r fine;
    }
settled_so n v r (answer.Status st) is plain = record {
  unknown = (λ said. cc, λ none. cc);
  wrong = (λ said. (λ none. cc, (st, is)), λ so. refl);
  silent = λ so. refl;
  lines = λ other same there. absurd (there (st, is));
  outcomes = over_refused r st is;
}
settled_so n v r other is plain = absurd plain

settled_none : (n v : ℕ) → TellsSettled n v None (settled_result n v None)
settled_none n v = record {
  unknown = (λ said. refl, λ none. refl);
  wrong = (λ said. cc, λ so. absurd (so.0 refl));
  silent = λ so. refl;
  lines = λ other same there. absurd (there tt);
  outcomes = over_none;
}

chain_told : (n v : ℕ) (links : Links) (reply : Option VbReply) → IsReply (call.Chain links) reply → TellsSettled n v reply (settled_result n v reply)
chain_told n v links None form = settled_none n v
chain_told n v links (Some r) form = settled_so n v r r.answer refl (chain_plain links r.answer form)

tick_told : (n v clock : ℕ) (reply : Option VbReply) → IsReply (call.Tick clock) reply → TellsSettled n v reply (settled_result n v reply)
tick_told n v clock None form = settled_none n v
tick_told n v clock (Some r) form = settled_so n v r r.answer refl (tick_plain clock r.answer form)

module _ {W : Type 0} (step : W → ℕ → VbCall → Option VbReply → W → Type 0) (n v : ℕ) where
  pub chains_settle : (links : Links) (old : W) (told : FlushResult) (now : W) → Ran step (chain_changed n v links) old told now → Settled step n v (call.Chain links) old told now
  chains_settle links old told now ran = record {
    reply = ran.0;
    called = subst (λ w. step old v (call.Chain links) ran.0 w) (sym ran.3.1) ran.2;
    tells = λ form. subst (TellsSettled n v ran.0) (sym ran.3.0) (chain_told n v links ran.0 form);
  }

  pub ticks_settle : (clock : ℕ) (old : W) (told : FlushResult) (now : W) → Ran step (ticked n v clock) old told now → Settled step n v (call.Tick clock) old told now
  ticks_settle clock old told now ran = record {
    reply = ran.0;
    called = subst (λ w. step old v (call.Tick clock) ran.0 w) (sym ran.3.1) ran.2;
    tells = λ form. subst (TellsSettled n v ran.0) (sym ran.3.0) (tick_told n v clock ran.0 form);
  }
