-- what a dial does at the states of a takeover
use Rattle.std.proofs.Common.{◌≡◌, ◌≢◌, ◌⊎◌, ℕ, Bool, true, false, List, [], ◌∷◌, ◌++◌, map, refl, sym, subst, ap, ◌∙◌, append_assoc, inl, inr, Option, Some, None}
use Rattle.std.specs.Prelude.{if◌then◌else◌}
use Rattle.mcbp_frame.specs.declared.frame.Frame.{Frame}
use Rattle.mcbp_dcp.specs.declared.message.DcpMsg.TheVariants as msg
use Rattle.takeover.specs.declared.take_over.TakeStep.{TakeStep}
use Rattle.vb_events.specs.declared.event.EndReason.TheVariants as reason
use Rattle.vb_events.specs.declared.event.Event.{Event}
use Rattle.vb_events.specs.declared.event.Event.TheVariants as event
use Rattle.vb_types.specs.declared.journal.Record.TheVariants as noted
use Rattle.vb_types.specs.declared.role.Role.{Role}
use Rattle.vb_types.specs.declared.role.Role.TheVariants as role
use Rattle.vb_types.specs.declared.status.Status.{Status}
use Rattle.vb_calls.specs.declared.calls.VbAnswer.{VbAnswer}
use Rattle.vb_calls.specs.declared.calls.VbAnswer.TheVariants as answer
use Rattle.vb_calls.specs.declared.calls.VbCall.{VbCall}
use Rattle.vb_calls.specs.declared.calls.VbCall.TheVariants as call
use Rattle.vb_calls.specs.declared.calls.VbReply.{VbReply}
use Rattle.vb_calls.specs.declared.journals.Wrote.{Wrote}
use Rattle.vb_calls.specs.declared.journals.Wrote.TheVariants as wrote
use Rattle.vb_calls.specs.Flushes.{is_refusal, log_of_reply, note_role_job, role_job, role_of_call, role_told_job, wrote_of}
use Rattle.vb_calls.specs.Jobs.{Job, Ended, Call, RanJob, bind_job}
use Rattle.vb_calls.specs.Programs.{Ran}
use Rattle.vb_calls.specs.Shelves.{Ask, Append, Got, Stood, WasClosed, DiskFailed}
use Rattle.dcp_consumer.specs.Conduct.{Reads}
use Rattle.dcp_consumer.specs.Machine.{PlainConsumer, over_why}
use Rattle.dcp_consumer.specs.States.{IsNoOrder, Obeys, state_answered}
use Rattle.dcp_consumer.specs.declared.handshake.ConsumerStep.{ConsumerStep}
use Rattle.dcp_consumer.proofs.States.{obeyed, strange}
use Rattle.node_core.specs.Calls.{own_lines}
use Rattle.node_core.specs.Dials.{DialResult, frame_taken, heir_told, is_done, is_done_answer, is_pending, is_pending_answer, noted_for, over_for, own_replied, own_result, owned, pend_result, pended, role_line, state_made, state_met, step_made, with_consumer, with_line}
use Rattle.node_core.specs.EndingLaws.{IsMade}
use Rattle.node_core.specs.Noting.{IsRefused}
use Rattle.node_core.specs.Taking.{OwnNoted, OwnsAs, PendsAs, SaysPending, StatesInPlace, TellsPending}
use Rattle.node_core.proofs.Endings.{made_is, made_tested}
use Rattle.node_core.proofs.Noting.{is_status, no_status}

-- ---- pending

says_so : (a : VbAnswer) → is_pending_answer a ≡ true → SaysPending a
says_so (answer.Shown role.Pending uuid ss se at image) e = tt
says_so other e = cc

said_so : (a : VbAnswer) → SaysPending a → is_pending_answer a ≡ true
said_so (answer.Shown role.Pending uuid ss se at image) says = refl
said_so other says = absurd says

tells_so : (shown : Option VbReply) → is_pending shown ≡ true → TellsPending shown
tells_so None e = cc
tells_so (Some r) e = (r, refl, says_so r.answer e)

told_so : (shown : Option VbReply) → TellsPending shown → is_pending shown ≡ true
told_so shown (r, is, says) = ap is_pending is ∙ said_so r.answer says

module _ (opaque : ℕ) (s : DialResult) where
  abbrev line : Event
  line = role_line s.dial.consumer.dialed role.Pending

  -- the state is answered, of a vBucket that was to take over already or was not
  abbrev met : Bool → DialResult
  met before = state_met opaque (if before then s else with_line s line)

  pend_made : (before : Bool) (reply : Option VbReply) → IsMade reply → pend_result opaque before s reply ≡ met before
  pend_made before reply made = ap (λ b. if b then met before else over_for reason.Protocol s) (made_tested reply made)

  pend_refused : (before : Bool) (reply : Option VbReply) → (IsMade reply → ⊥) → pend_result opaque before s reply ≡ over_for reason.Protocol s
  pend_refused before reply never = by (is_done reply) refl
    where
      by : (b : Bool) → is_done reply ≡ b → (if b then met before else over_for reason.Protocol s) ≡ over_for reason.Protocol s
      by true done = absurd (never (made_is reply done))
      by false done = refl

  met_out : (before : Bool) → ((met before).out ≡ s.out ++ state_answered opaque) × ((met before).dial ≡ s.dial)
  met_out true = (refl, refl)
  met_out false = (refl, refl)

  met_first : (shown : Option VbReply) (before : Bool) → is_pending shown ≡ before → (TellsPending shown → ⊥) → (met before).events ≡ s.events ++ line ∷ []
  met_first shown true is never = absurd (never (tells_so shown is))
  met_first shown false is never = refl

  module _ {W : Type 0} (step : W → ℕ → VbCall → Option VbReply → W → Type 0) where
    pub pends_so : (old : W) (told : DialResult) (now : W) → Ran step (pended opaque s) old told now → PendsAs step opaque s old told now
    unfolding pended
    pends_so old told now (shown, mid, asked, (reply, last, called, (is, same))) = record {
      shown = shown;
      mid = mid;
      asked = asked;
      reply = reply;
      called = subst (λ w. step mid s.dial.consumer.dialed.vb call.Pend reply w) (sym same) called;
      done = λ made.
          let out = met_out (is_pending shown) in
          (ap (λ (t : DialResult). t.out) (is ∙ pend_made (is_pending shown) reply made) ∙ out.0, ap (λ (t : DialResult). t.dial) (is ∙ pend_made (is_pending shown) reply made) ∙ out.1);
      first = λ made never. ap (λ (t : DialResult). t.events) (is ∙ pend_made (is_pending shown) reply made) ∙ met_first shown (is_pending shown) refl never;
      again = λ made tells. ap (λ (t : DialResult). t.events) (is ∙ pend_made (is_pending shown) reply made) ∙ ap (λ b. (met b).events) (told_so shown tells);
      refused = λ never. is ∙ pend_refused (is_pending shown) reply never;
    }

  -- ---- active

  noted_events : (came : Wrote) (t : DialResult) → ((noted_for came t).events ≡ t.events) × ((noted_for came t).out ≡ t.out)
  noted_events wrote.Stood t = (refl, refl)
  noted_events wrote.NotAsked t = (refl, refl)
  noted_events wrote.Closed t = (refl, refl)
  noted_events wrote.DiskFailed t = (refl, refl)

  -- the state is answered, of a vBucket that took over
  abbrev heir : VbReply → DialResult
  heir r = state_met opaque (heir_told r s)

  heir_made : (r : VbReply) (came : Wrote) → r.answer ≡ answer.Done → own_replied opaque s came r ≡ noted_for came (heir r)
  heir_made r came done = ap (λ a. if is_done_answer a then noted_for came (heir r) else over_for reason.Protocol s) done

  heir_refused : (r : VbReply) (came : Wrote) (st : Status) → r.answer ≡ answer.Status st → own_replied opaque s came r ≡ over_for reason.Protocol s
  heir_refused r came st is = ap (λ a. if is_done_answer a then noted_for came (heir r) else over_for reason.Protocol s) is

  abbrev comes : Option VbReply × Wrote → Job DialResult
  comes made = Ended (own_result opaque s made.0 made.1)

  module _ {W J : Type 0} (step : W → ℕ → VbCall → Option VbReply → W → Type 0) (asks : J → ℕ → (ask : Ask) → Got ask → J → Type 0) where
    -- what comes of a reply
    abbrev After : Option VbReply → W → J → DialResult → W → J → Type 0
    After reply mid kept told now left =
        (IsRefused reply → (now ≡ mid) × (left ≡ kept) × (told ≡ over_for reason.Protocol s))
        × ((r : VbReply) → reply ≡ Some r → r.answer ≡ answer.Done → OwnNoted step asks opaque s r mid kept told now left)

    noted_so : (r : VbReply) (mid : W) (kept : J) (told : DialResult) (now : W) (left : J) → r.answer ≡ answer.Done
        → RanJob step asks (bind_job (Call s.dial.consumer.dialed.vb call.Log (note_role_job s.dial.consumer.dialed.vb (role_of_call call.Own) r)) comes) mid kept told now left
        → OwnNoted step asks opaque s r mid kept told now left
    noted_so r mid kept told now left done (logged, last, tells, (fate, behind, appended, (is, same, alike))) =
        let said : told ≡ noted_for (wrote_of fate) (heir r) = is ∙ heir_made r (wrote_of fate) done in
        let n : ℕ = s.dial.consumer.dialed.node in
        let v : ℕ = s.dial.consumer.dialed.vb in
        record {
          logged = logged;
          tells = subst (λ w. step mid v call.Log logged w) (sym same) tells;
          fate = fate;
          appended = subst (λ j. asks kept v (Append (noted.State role.Active (log_of_reply logged))) fate j) (sym alike) appended;
          lines = ap (λ (t : DialResult). t.events) said ∙ (noted_events (wrote_of fate) (heir r)).0 ∙ append_assoc s.events (event.Role n v role.Active ∷ []) (own_lines n v r);
          answered = ap (λ (t : DialResult). t.out) said ∙ (noted_events (wrote_of fate) (heir r)).1;
          stands = λ stood. ap (λ (t : DialResult). t.dial) said ∙ ap (λ f. (noted_for (wrote_of f) (heir r)).dial) stood;
          fails = λ failed. ap (λ (t : DialResult). t.dial) said ∙ by failed;
        }
      where
        by : (fate ≡ WasClosed) ⊎ (fate ≡ DiskFailed) → (noted_for (wrote_of fate) (heir r)).dial ≡ (over_for reason.Disk s).dial
        by (inl e) = ap (λ f. (noted_for (wrote_of f) (heir r)).dial) e
        by (inr e) = ap (λ f. (noted_for (wrote_of f) (heir r)).dial) e

    made_so : (r : VbReply) (mid : W) (kept : J) (told : DialResult) (now : W) (left : J) (b : Bool) → is_refusal r.answer ≡ b
        → RanJob step asks (bind_job (if b then Ended (Some r, wrote.NotAsked) else Call s.dial.consumer.dialed.vb call.Log (note_role_job s.dial.consumer.dialed.vb (role_of_call call.Own) r)) comes) mid kept told now left
        → After (Some r) mid kept told now left
    made_so r mid kept told now left true is (said, same, alike) =
        let status = is_status r.answer is in (
          λ refused. (same, alike, said ∙ heir_refused r wrote.NotAsked status.0 status.1),
          λ q e done. let z : false ≡ true = sym (ap is_refusal done) ∙ ap (λ (x : VbReply). is_refusal x.answer) (sym (same_reply r q e)) ∙ is in cc,
        )
      where
        same_reply : (r q : VbReply) → Some r ≡ Some q → r ≡ q
        same_reply r q e = cc
    made_so r mid kept told now left false is ran = (
      λ refused. absurd (no_status r.answer is refused),
      λ q e done. let same : r ≡ q = cc in subst (λ x. x.answer ≡ answer.Done → OwnNoted step asks opaque s x mid kept told now left) same (λ done. noted_so r mid kept told now left done ran) done,
    )

    reply_so : (reply : Option VbReply) (mid : W) (kept : J) (told : DialResult) (now : W) (left : J)
        → RanJob step asks (bind_job (role_told_job s.dial.consumer.dialed.vb call.Own reply) comes) mid kept told now left → After reply mid kept told now left
    reply_so None mid kept told now left (said, same, alike) = ((λ refused. (same, alike, said)), λ r e done. cc)
    reply_so (Some r) mid kept told now left ran = made_so r mid kept told now left (is_refusal r.answer) refl ran

    pub owns_so : (old : W) (kept : J) (told : DialResult) (now : W) (left : J) → RanJob step asks (owned opaque s) old kept told now left → OwnsAs step asks opaque s old kept told now left
    unfolding owned role_job
    owns_so old kept told now left (reply, mid, called, ran) =
        let after = reply_so reply mid kept told now left ran in
        record { reply = reply; mid = mid; called = called; refused = after.0; made = after.1 }

-- ---- in their place

abbrev came : DialResult → PlainConsumer × ConsumerStep → Job DialResult
came s x = step_made x.1 (with_consumer s x.0)

pub in_place : (f : Frame) (s : DialResult) → StatesInPlace f s
unfolding frame_taken
in_place f s = record {
  obeyed = λ take obeys. ap (came s) (obeyed s.dial.consumer f take obeys);
  strange = λ to live magic read none. ap (came s) (strange s.dial.consumer f to live magic read none);
}
