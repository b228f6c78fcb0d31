-- what a step of writing a vBucket down comes to, and how its line is answered
use Rattle.std.specs.Prelude.{◌≡◌, ◌∷◌, ◌==◌, if◌then◌else◌}
use Rattle.transcript_law.proofs.Words.{ℕ, Bool, true, false, List, [], length, refl, ap, sym, ◌∙◌, subst, Option, Some, None, is_some, eqb-true, Answer, Cause, Event, Plain, States, with_vb_at, VbCall, Span, Ended, after_job, after_job_bind, plain_step}
use Rattle.transcript_law.proofs.invariant.JobSteps.{call_on}
use Rattle.transcript_law.proofs.verbs.NodeLines.{put_same as put_states}
use Rattle.{node_core.specs.Flushing.{flush_at, flush_result, took_result}, std.specs.Prelude.{max}, transcript_law.specs.Chronicles.{DiskKnown, Flushing, known_batch}, transcript_law.specs.LineAnswers.{IsAppended, IsSaved, IsTaken}, transcript_law.specs.Plainness.{IsStanding}}
use Rattle.vb_calls.specs.Flushes.{appended_job, finish_job, flush_job, part_job, save_job, take_job, taken_job, took, batch_of_reply}
use Rattle.vb_calls.specs.Flushing.{batch_of, flush_from, unflushed_span}
use Rattle.vb_calls.specs.Shelves.{Append, Fate, Stood, WasClosed, DiskFailed, Flush, Idle, Out, Written, Keep, Look, Shelf, Shelves, ask_at, shelves_step}
use Rattle.vb_calls.specs.declared.journals.Flushed.{Flushed}
use Rattle.vb_types.specs.declared.journal.FlushPart.{FlushPart}
use Rattle.vb_types.specs.declared.journal.Record.TheVariants as noted

-- a step first looks which batch is on its way
abbrev pub looked : Shelves → ℕ → Option Shelf → Shelves × Flush
looked shelves v o = ask_at shelves v Look o

pub flush_came : (n v : ℕ) (p : FlushPart) (states : States) (shelves : Shelves) (vb : Plain) (o : Option Shelf) → states v ≡ Some vb → shelves v ≡ o
    → after_job (flush_at n v p (is_some (states v))) states shelves ≡ (let y = after_job (part_job v p (looked shelves v o).1) (with_vb_at states v vb) (looked shelves v o).0 in (y.0, flush_result n v y.1))
unfolding flush_job
flush_came n v p states shelves vb o known is =
    let same : with_vb_at states v vb ≡ states = (λ i q. put_states states v vb known q i) in
    ap (λ (s : Option Plain). after_job (flush_at n v p (is_some s)) states shelves) known
    ∙ ap (λ (st : States). after_job (flush_at n v p true) st shelves) (sym same)
    ∙ after_job_bind (flush_job v p) (λ came. Ended (flush_result n v came)) (with_vb_at states v vb) shelves
    ∙ ap (λ o. let x = ask_at shelves v Look o in let y = after_job (part_job v p x.1) (with_vb_at states v vb) x.0 in (y.0, flush_result n v y.1)) is

-- one that is refused tells of nothing
pub refused_tells : (n v : ℕ) (came : Flushed) (why : Cause) → (flush_result n v came).answer ≡ Answer.No why → (flush_result n v came).events ≡ []
refused_tells n v (Flushed.Done reply) why e = cc
refused_tells n v (Flushed.Took ss se at count) why e = cc
refused_tells n v other why e = refl

-- what lines tell of the batch on its way
abbrev pub told_flush : Flush → Flushing
told_flush Idle = Flushing.Idle
told_flush (Out batch) = Flushing.Taken (known_batch batch.position batch.log)
told_flush (Written seq) = Flushing.Written seq

module _ (n v : ℕ) where
  -- a step is answered so, and where it is refused for a standing cause, nothing is changed
  abbrev pub StepSays : (List Event → Answer → Type 0) → States → Shelves → (States × Shelves) × Flushed → Type 0
  StepSays P states shelves y = P (flush_result n v y.1).events (flush_result n v y.1).answer × ((why : Cause) → (flush_result n v y.1).answer ≡ Answer.No why → IsStanding why → y.0 ≡ (states, shelves))

  took_says : (ss se at count : ℕ) → let told = took_result (Event.Batch n v ss se at count) count in IsTaken n v told.events told.answer
  took_says ss se at count = by (count == 0) refl
    where
      by : (b : Bool) → (count == 0) ≡ b → IsTaken n v (if b then [] else Event.Batch n v ss se at count ∷ []) (Answer.Number count)
      by true e = eqb-true count 0 e
      by false e = refl

  pub take_says : (flush : Flush) (states : States) (shelves : Shelves) (vb : Plain) → states v ≡ Some vb → StepSays (IsTaken n v) states shelves (after_job (take_job v flush) states shelves)
  take_says Idle states shelves vb known =
      let after = flush_from (unflushed_span vb) vb in
      subst (StepSays (IsTaken n v) states shelves) (sym (call_on states shelves v VbCall.FlushTake (λ reply. taken_job v (λ batch. Ended (took batch)) (batch_of_reply reply)) vb after.0 after.1 known refl))
      (by (unflushed_span vb))
    where
      by : (o : Option Span) → StepSays (IsTaken n v) states shelves (after_job (taken_job v (λ batch. Ended (took batch)) (batch_of_reply (Some (flush_from o vb).1))) (with_vb_at states v (flush_from o vb).0) shelves)
      by None = (refl, λ why f s. cc)
      by (Some w) = let b = batch_of vb w in (took_says b.position.ss b.position.se b.position.at (length b.items), λ why f s. cc)
  take_says (Out batch) states shelves vb known = (refl, λ why f s. refl)
  take_says (Written seq) states shelves vb known = (refl, λ why f s. refl)

  pub save_says : (d : DiskKnown) (flush : Flush) (states : States) (shelves : Shelves) → d.flushing ≡ told_flush flush → StepSays (λ lines said. IsAppended d said) states shelves (after_job (save_job v flush) states shelves)
  save_says d Idle states shelves told = (tt, λ why f s. refl)
  save_says d (Written seq) states shelves told = (tt, λ why f s. refl)
  save_says d (Out batch) states shelves told = let x = shelves_step shelves v (Append (noted.Rows batch)) in by x.1 x.0
    where
      by : (fate : Fate) (left : Shelves) → StepSays (λ lines said. IsAppended d said) states shelves (after_job (appended_job v batch (Ended Flushed.Saved) fate) states left)
      by Stood left = ((known_batch batch.position batch.log, told), λ why f s. cc)
      by WasClosed left = ((known_batch batch.position batch.log, told), λ why f s. let same : Cause.Closed ≡ why = cc in absurd (subst IsStanding (sym same) s))
      by DiskFailed left = ((known_batch batch.position batch.log, told), λ why f s. let same : Cause.Disk ≡ why = cc in absurd (subst IsStanding (sym same) s))

  pub done_says : (d : DiskKnown) (flush : Flush) (states : States) (shelves : Shelves) (vb : Plain) → states v ≡ Some vb → d.flushing ≡ told_flush flush → d.saved ≡ vb.saved
      → StepSays (λ lines said. IsSaved d said) states shelves (after_job (finish_job v flush) states shelves)
  done_says d Idle states shelves vb known told saved = (tt, λ why f s. refl)
  done_says d (Out batch) states shelves vb known told saved = (tt, λ why f s. refl)
  done_says d (Written seq) states shelves vb known told saved =
      let x = plain_step vb (VbCall.FlushDone seq) in
      subst (StepSays (λ lines said. IsSaved d said) states shelves) (sym (call_on states (shelves_step shelves v (Keep Idle)).0 v (VbCall.FlushDone seq) (λ reply. Ended (Flushed.Done reply)) vb x.0 x.1 known refl))
      ((seq, told, ap (λ m. max m seq) (sym saved)), λ why f s. cc)
