-- what a flush of all its steps does
use Rattle.std.proofs.Common.{◌≡◌, ℕ, refl, ap, sym, ◌∙◌, subst, Option, Some, None}
use Rattle.vb_types.specs.declared.journal.Batch.{Batch}
use Rattle.vb_types.specs.declared.journal.FlushPart.TheVariants as part
use Rattle.vb_calls.specs.declared.calls.VbAnswer.{VbAnswer}
use Rattle.vb_calls.specs.declared.calls.VbAnswer.TheVariants as answer
use Rattle.vb_calls.specs.declared.calls.VbCall.{VbCall}
use Rattle.vb_calls.specs.declared.calls.VbCall.TheVariants as call
use Rattle.vb_calls.specs.declared.calls.VbReply.{VbReply}
use Rattle.vb_calls.specs.declared.journals.Flushed.{Flushed}
use Rattle.vb_calls.specs.declared.journals.Flushed.TheVariants as flushed
use Rattle.vb_calls.specs.AllSteps.{HasBatch, HearsWritten, IsGone, EndsBy, IsSaved, IsTaken, TookNone, Takes, StepsOfAll}
use Rattle.vb_calls.specs.Flushes.{batch_in, batch_of_reply, done_job, appended_job, taken_job, save_all_job, all_job, part_job, flush_job}
use Rattle.vb_calls.specs.Jobs.{Ended, Request, RanJob}
use Rattle.vb_calls.specs.Shelves.{Ask, Keep, Got, Flush, Idle, Out, Written, Fate, Stood, WasClosed, DiskFailed}

-- the batch of a reply is in its answer
has_in : (r : VbReply) (a : VbAnswer) → r.answer ≡ a → (batch : Batch) → batch_in a ≡ Some batch → HasBatch (Some r) batch
has_in r (answer.Rows rows) is batch given = (r, refl, is ∙ ap answer.Rows (cc given))
has_in r other is batch given = cc

has_batch : (reply : Option VbReply) (batch : Batch) → batch_of_reply reply ≡ Some batch → HasBatch reply batch
has_batch None batch given = cc
has_batch (Some r) batch given = has_in r r.answer refl batch given

told_batch : (reply : Option VbReply) (batch : Batch) → HasBatch reply batch → batch_of_reply reply ≡ Some batch
told_batch reply batch has = ap batch_of_reply has.1 ∙ ap batch_in has.2

module _ {W J : Type 0} (step : W → ℕ → VbCall → Option VbReply → W → Type 0) (asks : J → ℕ → (ask : Ask) → Got ask → J → Type 0) (v : ℕ) where
  told : (seq : ℕ) (old : W) (kept : J) (came : Flushed) (new : W) (left : J) → RanJob step asks (done_job v seq) old kept came new left → HearsWritten step asks v seq old kept came new left
  told seq old kept came new left ran =
      let call_ran = ran.3 in
      let end = call_ran.3 in record {
        freed = subst (λ j. asks kept v (Keep Idle) tt j) (sym end.2) ran.2;
        reply = call_ran.0;
        told = subst (λ w. step old v (call.FlushDone seq) call_ran.0 w) (sym end.1) call_ran.2;
        said = end.0;
      }

  gone : (why : Flushed) (old : W) (kept : J) (came : Flushed) (new : W) (left : J) → RanJob step asks (Request v (Keep Idle) (λ k. Ended why)) old kept came new left → IsGone step asks v why old kept came new left
  gone why old kept came new left ran =
      let end = ran.3 in record {
        freed = subst (λ j. asks kept v (Keep Idle) tt j) (sym end.2) ran.2;
        untold = end.1;
        said = end.0;
      }

  ends : (batch : Batch) (fate : Fate) (old : W) (kept : J) (came : Flushed) (new : W) (left : J) → RanJob step asks (appended_job v batch (done_job v batch.position.at) fate) old kept came new left
      → EndsBy step asks v batch fate old kept came new left
  ends batch Stood old kept came new left ran = (ran.1, ran.2, told batch.position.at old ran.1 came new left ran.3)
  ends batch WasClosed old kept came new left ran = gone flushed.Closed old kept came new left ran
  ends batch DiskFailed old kept came new left ran = gone flushed.DiskFailed old kept came new left ran

  saved : (batch : Batch) (old : W) (kept : J) (came : Flushed) (new : W) (left : J) → RanJob step asks (save_all_job v batch) old kept came new left → IsSaved step asks v batch old kept came new left
  saved batch old kept came new left ran = record { fate = ran.0; mid = ran.1; appended = ran.2; ended = ends batch ran.0 old ran.1 came new left ran.3 }

  taken : (batch : Batch) (old : W) (kept : J) (came : Flushed) (new : W) (left : J) → RanJob step asks (taken_job v (save_all_job v) (Some batch)) old kept came new left → IsTaken step asks v batch old kept came new left
  taken batch old kept came new left ran = record { mid = ran.1; out = ran.2; saved = saved batch old ran.1 came new left ran.3 }

  took_none : (old : W) (kept : J) (came : Flushed) (new : W) (left : J) → RanJob step asks (taken_job v (save_all_job v) None) old kept came new left → TookNone step asks old kept came new left
  took_none old kept came new left ran = record { said = ran.0; untold = ran.1; unasked = ran.2 }

  -- where nothing is given, there was nothing
  given_none : (reply : Option VbReply) (o : Option Batch) → batch_of_reply reply ≡ o → ((batch : Batch) → HasBatch reply batch → ⊥) → o ≡ None
  given_none reply None is never = refl
  given_none reply (Some batch) is never = absurd (never batch (has_batch reply batch is))

  takes : (old : W) (kept : J) (came : Flushed) (new : W) (left : J) → RanJob step asks (all_job v Idle) old kept came new left → Takes step asks v old kept came new left
  takes old kept came new left ran = record {
    reply = ran.0;
    mid = ran.1;
    asked = ran.2;
    some = λ batch has. taken batch ran.1 kept came new left (subst (λ (o : Option Batch). RanJob step asks (taken_job v (save_all_job v) o) ran.1 kept came new left) (told_batch ran.0 batch has) ran.3);
    none = λ never. took_none ran.1 kept came new left
        (subst (λ (o : Option Batch). RanJob step asks (taken_job v (save_all_job v) o) ran.1 kept came new left) (given_none ran.0 (batch_of_reply ran.0) refl never) ran.3);
  }

  pub all_steps : (old : W) (kept : J) (came : Flushed) (new : W) (left : J) → RanJob step asks (flush_job v part.All) old kept came new left → StepsOfAll step asks v old kept came new left
  unfolding flush_job
  all_steps old kept came new left ran =
      let by : (f : Flush) → ran.0 ≡ f → RanJob step asks (all_job v f) old ran.1 came new left = λ f is. subst (λ (g : Flush). RanJob step asks (part_job v part.All g) old ran.1 came new left) is ran.3 in
      record {
        flush = ran.0;
        seen = ran.1;
        looked = ran.2;
        idle = λ is. takes old ran.1 came new left (by Idle is);
        out = λ batch is. saved batch old ran.1 came new left (by (Out batch) is);
        written = λ seq is. told seq old ran.1 came new left (by (Written seq) is);
      }
