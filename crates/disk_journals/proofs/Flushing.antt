-- how the steps of writing down run
use Rattle.std.proofs.Common.{◌≡◌, inl, inr, ℕ, List, refl, sym, subst, Option, Some, None}
use Rattle.vb_calls.specs.Flushes.{all_job, batch_of_reply, finish_job, save_all_job, save_job, take_job, taken_job, took_nothing, part_job, flush_job}
use Rattle.vb_calls.specs.Jobs.{Job, Call, RanJob, BeganJob}
use Rattle.vb_calls.specs.Shelves.{Ask, Append, Keep, Got, Flush, Idle, Out, Written, Stood, WasClosed}
use Rattle.vb_calls.specs.declared.calls.VbCall.{VbCall}
use Rattle.vb_calls.specs.declared.calls.VbCall.TheVariants as call
use Rattle.vb_calls.specs.declared.calls.VbReply.{VbReply}
use Rattle.vb_calls.specs.declared.journals.Flushed.{Flushed}
use Rattle.vb_calls.specs.declared.journals.Flushed.TheVariants as flushed
use Rattle.vb_calls.specs.declared.journals.Wrote.{Wrote}
use Rattle.vb_calls.specs.declared.journals.Wrote.TheVariants as wrote
use Rattle.vb_types.specs.declared.journal.Batch.{Batch}
use Rattle.vb_types.specs.declared.journal.FlushPart.{FlushPart}
use Rattle.vb_types.specs.declared.journal.Record.TheVariants.{Rows}
use Rattle.disk_journals.specs.declared.slot.Stage.TheVariants as stage
use Rattle.disk_journals.specs.Asking.{disk_asks}
use Rattle.disk_journals.specs.Saving.{SavedAt, UnsavedAt, written_in}
use Rattle.disk_journals.specs.Devices.{Device}
use Rattle.disk_journals.specs.Seen.{Seen, seen_at, flush_at, stage_of}
use Rattle.disk_journals.specs.Steps.{flushed_by, rest_job}
use Rattle.disk_journals.proofs.Asked.{none_asked, looked}

pub stage_idle : (flush : Flush) → stage.Idle ≡ stage_of flush → flush ≡ Idle
stage_idle Idle e = refl
stage_idle (Out batch) e = cc
stage_idle (Written seq) e = cc

module _ {W J : Type 0} (step : W → ℕ → VbCall → Option VbReply → W → Type 0) (asks : J → ℕ → (ask : Ask) → Got ask → J → Type 0) where
  -- there was nothing to take
  pub took_none : (v : ℕ) (k : Batch → Job Flushed) (w : W) (j : J) (reply : Option VbReply) (w' : W) → None ≡ batch_of_reply reply → step w v call.FlushTake reply w'
      → RanJob step asks (Call v call.FlushTake (λ reply. taken_job v k (batch_of_reply reply))) w j took_nothing w' j
  took_none v k w j reply w' none stepped =
      (reply, w', stepped, subst (λ o. RanJob step asks (taken_job v k o) w' j took_nothing w' j) none (refl, refl, refl))

  -- a batch was taken
  pub took_one : (v : ℕ) (k : Batch → Job Flushed) (w : W) (j : J) (reply : Option VbReply) (batch : Batch) (w' : W) (came : Flushed) (w'' : W) (j' : J)
      → Some batch ≡ batch_of_reply reply → step w v call.FlushTake reply w' → RanJob step asks (taken_job v k (Some batch)) w' j came w'' j'
      → RanJob step asks (Call v call.FlushTake (λ reply. taken_job v k (batch_of_reply reply))) w j came w'' j'
  took_one v k w j reply batch w' came w'' j' some stepped rest =
      (reply, w', stepped, subst (λ o. RanJob step asks (taken_job v k o) w' j came w'' j') some rest)

  pub took_began : (v : ℕ) (k : Batch → Job Flushed) (w : W) (j : J) (reply : Option VbReply) (batch : Batch) (w' : W) (w'' : W) (j' : J)
      → Some batch ≡ batch_of_reply reply → step w v call.FlushTake reply w' → BeganJob step asks (taken_job v k (Some batch)) w' j w'' j'
      → BeganJob step asks (Call v call.FlushTake (λ reply. taken_job v k (batch_of_reply reply))) w j w'' j'
  took_began v k w j reply batch w' w'' j' some stepped rest =
      inr (reply, w', stepped, subst (λ o. BeganJob step asks (taken_job v k o) w' j w'' j') some rest)

  -- a batch is on its way already
  pub batch_out : (v : ℕ) (flush : Flush) (w : W) (j : J) → (stage_of flush ≡ stage.Idle → ⊥) → RanJob step asks (take_job v flush) w j flushed.BatchOut w j
  batch_out v Idle w j other = absurd (other refl)
  batch_out v (Out batch) w j other = (refl, refl, refl)
  batch_out v (Written seq) w j other = (refl, refl, refl)

  -- no batch was appended that could be done
  pub unfinished : (v : ℕ) (flush : Flush) (w : W) (j j' : J) → None ≡ written_in flush → j' ≡ j → RanJob step asks (finish_job v flush) w j flushed.NothingTaken w j'
  unfinished v Idle w j j' none same = (refl, refl, same)
  unfinished v (Out batch) w j j' none same = (refl, refl, same)
  unfinished v (Written seq) w j j' none same = cc

  -- one was
  pub finished : (v : ℕ) (flush : Flush) (seq : ℕ) (w : W) (j : J) (reply : Option VbReply) (w' : W) (j' : J) → Some seq ≡ written_in flush → step w v (call.FlushDone seq) reply w' → asks j v (Keep Idle) tt j'
      → RanJob step asks (finish_job v flush) w j (flushed.Done reply) w' j'
  finished v Idle seq w j reply w' j' some stepped kept = cc
  finished v (Out batch) seq w j reply w' j' some stepped kept = cc
  finished v (Written told) seq w j reply w' j' some stepped kept =
      (tt, j', kept, (reply, w', subst (λ n. step w v (call.FlushDone n) reply w') (same told seq some) stepped, (refl, refl, refl)))
    where
      same : (told seq : ℕ) → Some seq ≡ Some told → seq ≡ told
      same told seq e = cc

  -- memory was short for telling that it was
  pub untold : (v : ℕ) (flush : Flush) (seq : ℕ) (w : W) (j j' : J) → Some seq ≡ written_in flush → asks j v (Keep Idle) tt j' → BeganJob step asks (finish_job v flush) w j w j'
  untold v Idle seq w j j' some kept = cc
  untold v (Out batch) seq w j j' some kept = cc
  untold v (Written told) seq w j j' some kept = inr (tt, j', kept, inl (refl, refl))

module _ {W D : Type 0} (step : W → ℕ → VbCall → Option VbReply → W → Type 0) (dev : Device D) where
  -- the batch that was taken was saved, or there is none
  pub save_ran : (v : ℕ) (flush : Flush) (saved : Option Wrote) (w : W) (j j' : List (Seen D)) → SavedAt dev flush j v saved j'
      → RanJob step (disk_asks dev) (save_job v flush) w j (flushed_by saved) w j'
  save_ran v Idle None w j j' same = (refl, refl, same)
  save_ran v Idle (Some wrote) w j j' h = absurd h
  save_ran v (Written seq) None w j j' same = (refl, refl, same)
  save_ran v (Written seq) (Some wrote) w j j' h = absurd h
  save_ran v (Out batch) None w j j' h = absurd h
  save_ran v (Out batch) (Some wrote.Stood) w j j' h = (_, h.between, h.appended, (tt, j', h.kept, (refl, refl, refl)))
  save_ran v (Out batch) (Some wrote.NotAsked) w j j' h = (_, h.between, h.appended, (tt, j', h.kept, (refl, refl, refl)))
  save_ran v (Out batch) (Some wrote.Closed) w j j' h = (_, h.between, h.appended, (tt, j', h.kept, (refl, refl, refl)))
  save_ran v (Out batch) (Some wrote.DiskFailed) w j j' h = (_, h.between, h.appended, (tt, j', h.kept, (refl, refl, refl)))

  -- memory was short for it
  pub save_unsaved : (v : ℕ) (flush : Flush) (w : W) (j j' : List (Seen D)) → UnsavedAt dev flush j v j' → BeganJob step (disk_asks dev) (save_job v flush) w j w j'
  save_unsaved v Idle w j j' same = (refl, same)
  save_unsaved v (Out batch) w j j' short = inl (refl, short)
  save_unsaved v (Written seq) w j j' same = (refl, same)

  pub rest_unsaved : (v : ℕ) (flush : Flush) (w : W) (j j' : List (Seen D)) → UnsavedAt dev flush j v j' → BeganJob step (disk_asks dev) (rest_job v flush) w j w j'
  rest_unsaved v Idle w j j' same = (refl, same)
  rest_unsaved v (Out batch) w j j' short = inl (refl, short)
  rest_unsaved v (Written seq) w j j' same = (refl, same)

  -- the same, where the batch would be done next: it can't be
  pub rest_stopped : (v : ℕ) (flush : Flush) (saved : Option Wrote) (w : W) (j j' : List (Seen D)) → (saved ≡ Some wrote.Stood → ⊥) → SavedAt dev flush j v saved j'
      → RanJob step (disk_asks dev) (rest_job v flush) w j (flushed_by saved) w j'
  rest_stopped v Idle None w j j' other same = (refl, refl, same)
  rest_stopped v Idle (Some wrote) w j j' other h = absurd h
  rest_stopped v (Written seq) None w j j' other same = (refl, refl, same)
  rest_stopped v (Written seq) (Some wrote) w j j' other h = absurd h
  rest_stopped v (Out batch) None w j j' other h = absurd h
  rest_stopped v (Out batch) (Some wrote.Stood) w j j' other h = absurd (other refl)
  rest_stopped v (Out batch) (Some wrote.NotAsked) w j j' other h = (_, h.between, h.appended, (tt, j', h.kept, (refl, refl, refl)))
  rest_stopped v (Out batch) (Some wrote.Closed) w j j' other h = (_, h.between, h.appended, (tt, j', h.kept, (refl, refl, refl)))
  rest_stopped v (Out batch) (Some wrote.DiskFailed) w j j' other h = (_, h.between, h.appended, (tt, j', h.kept, (refl, refl, refl)))

  -- it was, and is done
  pub rest_finished : (v : ℕ) (flush : Flush) (w : W) (j mid : List (Seen D)) (came : Flushed) (w' : W) (j' : List (Seen D)) → SavedAt dev flush j v (Some wrote.Stood) mid
      → RanJob step (disk_asks dev) (finish_job v (flush_at mid v)) w mid came w' j' → RanJob step (disk_asks dev) (rest_job v flush) w j came w' j'
  rest_finished v Idle w j mid came w' j' h rest = absurd h
  rest_finished v (Written seq) w j mid came w' j' h rest = absurd h
  rest_finished v (Out batch) w j mid came w' j' h rest =
      (Stood, h.between, h.appended, (tt, mid, h.kept, subst (λ f. RanJob step (disk_asks dev) (finish_job v f) w mid came w' j') h.left rest))

  pub rest_began : (v : ℕ) (flush : Flush) (w : W) (j mid : List (Seen D)) (w' : W) (j' : List (Seen D)) → SavedAt dev flush j v (Some wrote.Stood) mid
      → BeganJob step (disk_asks dev) (finish_job v (flush_at mid v)) w mid w' j' → BeganJob step (disk_asks dev) (rest_job v flush) w j w' j'
  rest_began v Idle w j mid w' j' h rest = absurd h
  rest_began v (Written seq) w j mid w' j' h rest = absurd h
  rest_began v (Out batch) w j mid w' j' h rest =
      inr (Stood, h.between, h.appended, inr (tt, mid, h.kept, subst (λ f. BeganJob step (disk_asks dev) (finish_job v f) w mid w' j') h.left rest))

  -- a step, once the batch on its way is known
  pub looked_ran : (v : ℕ) (p q : FlushPart) (w : W) (j : List (Seen D)) (came : Flushed) (w' : W) (j' : List (Seen D)) → p ≡ q → RanJob step (disk_asks dev) (part_job v q (flush_at j v)) w j came w' j'
      → RanJob step (disk_asks dev) (flush_job v p) w j came w' j'
  unfolding flush_job
  looked_ran v p q w j came w' j' same ran =
      (flush_at j v, j, looked dev j v, subst (λ (part : FlushPart). RanJob step (disk_asks dev) (part_job v part (flush_at j v)) w j came w' j') (sym same) ran)

  pub looked_began : (v : ℕ) (p q : FlushPart) (w : W) (j : List (Seen D)) (w' : W) (j' : List (Seen D)) → p ≡ q → BeganJob step (disk_asks dev) (part_job v q (flush_at j v)) w j w' j'
      → BeganJob step (disk_asks dev) (flush_job v p) w j w' j'
  unfolding flush_job
  looked_began v p q w j w' j' same began =
      inr (flush_at j v, j, looked dev j v, subst (λ (part : FlushPart). BeganJob step (disk_asks dev) (part_job v part (flush_at j v)) w j w' j') (sym same) began)

  -- a batch that no journal takes over can't be saved
  pub put_nowhere : (v : ℕ) (batch : Batch) (w : W) (j : List (Seen D)) → seen_at j v ≡ None → RanJob step (disk_asks dev) (taken_job v (save_all_job v) (Some batch)) w j flushed.Closed w j
  put_nowhere v batch w j none =
      (tt, j, none_asked dev j v (Keep (Out batch)) none, (WasClosed, j, none_asked dev j v (Append (Rows batch)) none, (tt, j, none_asked dev j v (Keep Idle) none, (refl, refl, refl))))

  -- one that was taken over
  pub put_saved : (v : ℕ) (batch : Batch) (w : W) (j mid : List (Seen D)) (came : Flushed) (w' : W) (j' : List (Seen D)) → disk_asks dev j v (Keep (Out batch)) tt mid → flush_at mid v ≡ Out batch
      → RanJob step (disk_asks dev) (rest_job v (flush_at mid v)) w mid came w' j' → RanJob step (disk_asks dev) (taken_job v (save_all_job v) (Some batch)) w j came w' j'
  put_saved v batch w j mid came w' j' kept out rest = (tt, mid, kept, subst (λ f. RanJob step (disk_asks dev) (rest_job v f) w mid came w' j') out rest)

  pub put_began : (v : ℕ) (batch : Batch) (w : W) (j mid : List (Seen D)) (w' : W) (j' : List (Seen D)) → disk_asks dev j v (Keep (Out batch)) tt mid → flush_at mid v ≡ Out batch
      → BeganJob step (disk_asks dev) (rest_job v (flush_at mid v)) w mid w' j' → BeganJob step (disk_asks dev) (taken_job v (save_all_job v) (Some batch)) w j w' j'
  put_began v batch w j mid w' j' kept out rest = inr (tt, mid, kept, subst (λ f. BeganJob step (disk_asks dev) (rest_job v f) w mid w' j') out rest)

  -- what is still to be made, by the stage
  pub all_rest : (v : ℕ) (flush : Flush) → stage.Out ≡ stage_of flush → all_job v flush ≡ rest_job v flush
  all_rest v Idle e = cc
  all_rest v (Out batch) e = refl
  all_rest v (Written seq) e = cc

  pub all_finish : (v : ℕ) (flush : Flush) → stage.Written ≡ stage_of flush → all_job v flush ≡ finish_job v flush
  all_finish v Idle e = cc
  all_finish v (Out batch) e = cc
  all_finish v (Written seq) e = refl

pub ruleset flushing = (took_none, took_one, took_began, batch_out, unfinished, finished, untold, save_ran, save_unsaved, rest_unsaved, rest_stopped, rest_finished, rest_began, put_nowhere, put_saved, put_began, looked, looked_ran, looked_began)
