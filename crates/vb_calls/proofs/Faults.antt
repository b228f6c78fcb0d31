-- counts of failures, along jobs
use Rattle.std.proofs.Common.{◌≡◌, ◌⊎◌, inl, inr, ℕ, ◌≤◌, Bool, true, false, List, refl, ap, sym, subst, arith, Option, Some, None}
use Rattle.std.specs.Prelude.{if◌then◌else◌}
use Rattle.vb_disk.specs.Counts.{Rose}
use Rattle.vb_types.specs.declared.journal.Batch.{Batch}
use Rattle.vb_types.specs.declared.journal.FlushPart.{FlushPart}
use Rattle.vb_types.specs.declared.journal.FlushPart.TheVariants as part
use Rattle.vb_types.specs.declared.journal.Record.{Record}
use Rattle.vb_calls.specs.Faults.{AreCounted, FailsWhereItRose, IsCounted, IsFailure, NeverFalls}
use Rattle.vb_calls.specs.Flushes.{append_job, appended_job, batch_of_reply, done_job, flush_job, is_refusal, may_roll_job, note_role_job, part_job, read_job, role_job, role_made_job, role_of_call, role_told_job, roll_job, rollable_job, rolled_by, rolled_in, rolled_job, save_all_job, taken_job, took, wrote_of}
use Rattle.vb_calls.specs.Jobs.{Job, Ended, Call, Request, RanJob, BeganJob, IsUnasked}
use Rattle.vb_calls.specs.Shelves.{Append, Ask, Book, Broken, DiskFailed, Fate, Flush, Got, Idle, Look, Out, Reading, Shut, Stood, Unread, WasClosed, Written}
use Rattle.vb_calls.specs.declared.calls.VbAnswer.{VbAnswer}
use Rattle.vb_calls.specs.declared.calls.VbAnswer.TheVariants as answer
use Rattle.vb_calls.specs.declared.calls.VbCall.{VbCall}
use Rattle.vb_calls.specs.declared.calls.VbCall.TheVariants as call
use Rattle.vb_calls.specs.declared.calls.VbReply.{VbReply}
use Rattle.vb_calls.specs.declared.journals.Flushed.{Flushed}
use Rattle.vb_calls.specs.declared.journals.Flushed.TheVariants as flushed
use Rattle.vb_calls.specs.declared.journals.Rolled.{Rolled}
use Rattle.vb_calls.specs.declared.journals.Rolled.TheVariants as rolled
use Rattle.vb_calls.specs.declared.journals.Wrote.{Wrote}
use Rattle.vb_calls.specs.declared.journals.Wrote.TheVariants as wrote

-- a count that rose between two moments rose between an earlier one and a later one
rose_within : (a b c d : ℕ) → a ≤ b → Rose b c → c ≤ d → Rose a d
rose_within a b c d l r m = omega (arith, l, r, m)

same_count : (a b : ℕ) → a ≡ b → a ≤ b
same_count a b e = omega (arith, e)

-- a job that comes to such an answer only behind a request to the journal at v whose disk failed
abbrev pub FailsAsAsked : {A : Type 0} → ℕ → (A → Type 0) → Job A → Type 0
FailsAsAsked v IsDisk (Ended a) = IsDisk a → ⊥
FailsAsAsked v IsDisk (Call u call next) = (reply : Option VbReply) → FailsAsAsked v IsDisk (next reply)
FailsAsAsked v IsDisk (Request u ask next) = (u ≡ v) × ((got : Got ask) → IsFailure ask got ⊎ FailsAsAsked v IsDisk (next got))

module _ {W J : Type 0} (step : W → ℕ → VbCall → Option VbReply → W → Type 0) (asks : J → ℕ → (ask : Ask) → Got ask → J → Type 0) (failures : J → ℕ → ℕ) (counted : AreCounted asks failures) where
  ran_later : {A : Type 0} (job : Job A) (old : W) (kept : J) (answer : A) (new : W) (left : J) → RanJob step asks job old kept answer new left → (v : ℕ) → failures kept v ≤ failures left v
  ran_later (Ended a) old kept answer new left ran v = same_count (failures kept v) (failures left v) (sym (ap (λ j. failures j v) ran.2))
  ran_later (Call u call next) old kept answer new left ran v = ran_later (next ran.0) ran.1 kept answer new left ran.3 v
  ran_later (Request u ask next) old kept answer new left ran v =
      let first : failures kept v ≤ failures ran.1 v = (counted kept u ask ran.0 ran.1 ran.2).later v in
      let rest : failures ran.1 v ≤ failures left v = ran_later (next ran.0) old ran.1 answer new left ran.3 v in
      omega arith

  unasked_later : (u : ℕ) (kept left : J) → IsUnasked asks u kept left → (v : ℕ) → failures kept v ≤ failures left v
  unasked_later u kept left (inl same) v = same_count (failures kept v) (failures left v) (sym (ap (λ j. failures j v) same))
  unasked_later u kept left (inr looked) v = (counted kept u Look looked.0 left looked.1).later v

  began_later : {A : Type 0} (job : Job A) (old : W) (kept : J) (new : W) (left : J) → BeganJob step asks job old kept new left → (v : ℕ) → failures kept v ≤ failures left v
  began_later (Ended a) old kept new left begun v = same_count (failures kept v) (failures left v) (sym (ap (λ j. failures j v) begun.1))
  began_later (Call u call next) old kept new left (inl same) v = same_count (failures kept v) (failures left v) (sym (ap (λ j. failures j v) same.1))
  began_later (Call u call next) old kept new left (inr more) v = began_later (next more.0) more.1 kept new left more.3 v
  began_later (Request u ask next) old kept new left (inl short) v = unasked_later u kept left short.1 v
  began_later (Request u ask next) old kept new left (inr more) v =
      let first : failures kept v ≤ failures more.1 v = (counted kept u ask more.0 more.1 more.2).later v in
      let rest : failures more.1 v ≤ failures left v = began_later (next more.0) old more.1 new left more.3 v in
      omega arith

  pub never_falls : {A : Type 0} → NeverFalls step asks failures A
  never_falls = record { ran = ran_later; began = began_later }

  -- such a job came to such an answer
  pub rose_asked : {A : Type 0} (v : ℕ) (IsDisk : A → Type 0) (job : Job A) (old : W) (kept : J) (answer : A) (new : W) (left : J) → FailsAsAsked v IsDisk job → RanJob step asks job old kept answer new left → IsDisk answer
      → Rose (failures kept v) (failures left v)
  rose_asked v IsDisk (Ended a) old kept answer new left fails ran is = absurd (fails (subst IsDisk ran.0 is))
  rose_asked v IsDisk (Call u call next) old kept answer new left fails ran is = rose_asked v IsDisk (next ran.0) ran.1 kept answer new left (fails ran.0) ran.3 is
  rose_asked v IsDisk (Request u ask next) old kept answer new left fails ran is =
      let one : IsCounted (failures kept) (failures ran.1) u ask ran.0 = counted kept u ask ran.0 ran.1 ran.2 in
      let later : failures ran.1 v ≤ failures left v = ran_later (next ran.0) old ran.1 answer new left ran.3 v in
      elim (fails.1 ran.0) [
        | inl failed ↦
            rose_within (failures kept v) (failures kept v) (failures ran.1 v) (failures left v) (same_count (failures kept v) (failures kept v) refl)
            (subst (λ n. Rose (failures kept n) (failures ran.1 n)) fails.0 (one.rose failed)) later
        | inr goes ↦
            rose_within (failures kept v) (failures ran.1 v) (failures left v) (failures left v) (one.later v)
            (rose_asked v IsDisk (next ran.0) old ran.1 answer new left goes ran.3 is) (same_count (failures left v) (failures left v) refl)
      ]

-- a step of writing a batch down

abbrev Fails : Flushed → Type 0
Fails came = came ≡ flushed.DiskFailed

done_fails : (v seq : ℕ) → FailsAsAsked v Fails (done_job v seq)
done_fails v seq = (refl, λ kept. inr (λ reply e. cc))

appended_fails : (v : ℕ) (batch : Batch) (next : Job Flushed) → FailsAsAsked v Fails next → FailsAsAsked v Fails (append_job v batch next)
appended_fails v batch next fails = (refl, by)
  where
    by : (fate : Fate) → (fate ≡ DiskFailed) ⊎ FailsAsAsked v Fails (appended_job v batch next fate)
    by Stood = inr (refl, λ kept. inr fails)
    by WasClosed = inr (refl, λ kept. inr (λ e. cc))
    by DiskFailed = inl refl

taken_fails : (v : ℕ) (next : Batch → Job Flushed) → ((batch : Batch) → FailsAsAsked v Fails (next batch)) → (o : Option Batch) → FailsAsAsked v Fails (taken_job v next o)
taken_fails v next fails None = λ e. cc
taken_fails v next fails (Some batch) = (refl, λ kept. inr (fails batch))

save_all_fails : (v : ℕ) (batch : Batch) → FailsAsAsked v Fails (save_all_job v batch)
save_all_fails v batch = appended_fails v batch (done_job v batch.position.at) (done_fails v batch.position.at)

part_fails : (v : ℕ) (p : FlushPart) (flush : Flush) → FailsAsAsked v Fails (part_job v p flush)
part_fails v part.Take Idle = λ reply. taken_fails v (λ batch. Ended (took batch)) (λ batch e. cc) (batch_of_reply reply)
part_fails v part.Take (Out batch) = λ e. cc
part_fails v part.Take (Written seq) = λ e. cc
part_fails v part.Save Idle = λ e. cc
part_fails v part.Save (Out batch) = appended_fails v batch (Ended flushed.Saved) (λ e. cc)
part_fails v part.Save (Written seq) = λ e. cc
part_fails v part.Done Idle = λ e. cc
part_fails v part.Done (Out batch) = λ e. cc
part_fails v part.Done (Written seq) = done_fails v seq
part_fails v part.All Idle = λ reply. taken_fails v (save_all_job v) (save_all_fails v) (batch_of_reply reply)
part_fails v part.All (Out batch) = save_all_fails v batch
part_fails v part.All (Written seq) = done_fails v seq

flush_fails : (v : ℕ) (p : FlushPart) → FailsAsAsked v Fails (flush_job v p)
unfolding flush_job
flush_fails v p = (refl, λ flush. inr (part_fails v p flush))

-- a rollback

abbrev Rolls : Rolled → Type 0
Rolls came = came ≡ rolled.DiskFailed

-- a vBucket's reply to a rollback says nothing of a disk
rolled_in_fails : (a : VbAnswer) → Rolls (rolled_in a) → ⊥
rolled_in_fails (answer.Num now) e = cc
rolled_in_fails (answer.Status st) e = cc
rolled_in_fails other e = cc

rolled_fails : (reply : Option VbReply) → Rolls (rolled_by reply) → ⊥
rolled_fails None e = cc
rolled_fails (Some reply) e = rolled_in_fails reply.answer e

noted_fails : (v : ℕ) (book : List Record) (to : ℕ) (fate : Fate) → (fate ≡ DiskFailed) ⊎ FailsAsAsked v Rolls (rolled_job v book to fate)
noted_fails v book to Stood = inr (refl, λ kept. inr rolled_fails)
noted_fails v book to WasClosed = inr (λ e. cc)
noted_fails v book to DiskFailed = inl refl

read_fails : (v named : ℕ) (reading : Reading) → (reading ≡ Unread) ⊎ FailsAsAsked v Rolls (read_job v named reading)
read_fails v named (Book book) = inr (refl, noted_fails v book _)
read_fails v named Shut = inr (λ e. cc)
read_fails v named Unread = inl refl
read_fails v named (Broken place) = inr (λ e. cc)

may_roll_fails : (v named : ℕ) (a : VbAnswer) → FailsAsAsked v Rolls (may_roll_job v named a)
may_roll_fails v named (answer.Named ask) = (refl, read_fails v named)
may_roll_fails v named other = λ e. cc

rollable_fails : (v named : ℕ) (reply : Option VbReply) → FailsAsAsked v Rolls (rollable_job v named reply)
rollable_fails v named None = λ e. cc
rollable_fails v named (Some reply) = may_roll_fails v named reply.answer

roll_fails : (v named : ℕ) → FailsAsAsked v Rolls (roll_job v named)
unfolding roll_job
roll_fails v named = rollable_fails v named

-- a change of role

abbrev Turns : Option VbReply × Wrote → Type 0
Turns told = told.1 ≡ wrote.DiskFailed

wrote_fails : (v : ℕ) (reply : Option VbReply) (fate : Fate) → (fate ≡ DiskFailed) ⊎ FailsAsAsked v Turns (Ended (reply, wrote_of fate))
wrote_fails v reply Stood = inr (λ e. cc)
wrote_fails v reply WasClosed = inr (λ e. cc)
wrote_fails v reply DiskFailed = inl refl

made_fails : (v : ℕ) (asked : VbCall) (reply : VbReply) (b : Bool) → is_refusal reply.answer ≡ b → FailsAsAsked v Turns (role_made_job v asked reply)
made_fails v asked reply true e = subst (λ b. FailsAsAsked v Turns (if b then Ended (Some reply, wrote.NotAsked) else Call v call.Log (note_role_job v (role_of_call asked) reply))) (sym e) (λ f. cc)
made_fails v asked reply false e = subst (λ b. FailsAsAsked v Turns (if b then Ended (Some reply, wrote.NotAsked) else Call v call.Log (note_role_job v (role_of_call asked) reply))) (sym e) (λ logged. (refl, wrote_fails v (Some reply)))

told_fails : (v : ℕ) (asked : VbCall) (reply : Option VbReply) → FailsAsAsked v Turns (role_told_job v asked reply)
told_fails v asked None = λ e. cc
told_fails v asked (Some reply) = made_fails v asked reply (is_refusal reply.answer) refl

role_fails : (v : ℕ) (asked : VbCall) → FailsAsAsked v Turns (role_job v asked)
unfolding role_job
role_fails v asked = told_fails v asked

-- all of them

failed_of : (fate : Fate) → wrote_of fate ≡ wrote.DiskFailed → fate ≡ DiskFailed
failed_of Stood e = cc
failed_of WasClosed e = cc
failed_of DiskFailed e = refl

pub fails_where_it_rose : {W J : Type 0} (step : W → ℕ → VbCall → Option VbReply → W → Type 0) (asks : J → ℕ → (ask : Ask) → Got ask → J → Type 0) (failures : J → ℕ → ℕ) → AreCounted asks failures → FailsWhereItRose step asks failures
fails_where_it_rose step asks failures counted = record {
  appended = λ v what fate kept left asked said. (counted kept v (Append what) fate left asked).rose (failed_of fate said);
  flushed = λ v p old kept new left ran. rose_asked step asks failures counted v Fails (flush_job v p) old kept flushed.DiskFailed new left (flush_fails v p) ran refl;
  rolled = λ v to old kept new left ran. rose_asked step asks failures counted v Rolls (roll_job v to) old kept rolled.DiskFailed new left (roll_fails v to) ran refl;
  turned = λ v asked old kept reply new left ran. rose_asked step asks failures counted v Turns (role_job v asked) old kept (reply, wrote.DiskFailed) new left (role_fails v asked) ran refl;
}
