-- laws of journals on disks
use Rattle.std.proofs.Common.{◌≡◌, ◌⊎◌, inl, inr, ℕ, true, false, List, ◌∷◌, refl, ap, sym, ◌∙◌, subst, Option, Some, None}
use Rattle.std.specs.Prelude.{◌≢◌, if◌then◌else◌}
use Rattle.std.proofs.lemmas.Bool.{eq-eqb}
use Rattle.vb_calls.specs.Flushes.{flush_job, roll_job, part_job, taken_job, took, save_job, appended_job, read_job, batch_of_reply}
use Rattle.vb_calls.specs.Flushing.{batch_of, unflushed_span, flush_from}
use Rattle.vb_calls.specs.Jobs.{Job, Ended, Call, Request, RanJob, after_job}
use Rattle.vb_calls.specs.Plain.{plain_step}
use Rattle.vb_calls.specs.Shelves.{Ask, Append, Look, Keep, Got, Flush, Idle, Out, Written, Fate, Stood, WasClosed, DiskFailed, Reading, Book, Shut, Unread, Broken, Shelf, Shelves, after_fate, fate_of, ask_at, shelf_step, with_shelf_at}
use Rattle.vb_calls.specs.State.{Plain}
use Rattle.vb_calls.specs.States.{States, call_at, with_vb_at}
use Rattle.vb_calls.specs.declared.calls.VbCall.{VbCall}
use Rattle.vb_calls.specs.declared.calls.VbCall.TheVariants as call
use Rattle.vb_calls.specs.declared.calls.VbReply.{VbReply}
use Rattle.vb_calls.specs.declared.journals.Flushed.{Flushed}
use Rattle.vb_calls.specs.declared.journals.Flushed.TheVariants as flushed
use Rattle.vb_calls.specs.declared.journals.Rolled.{Rolled}
use Rattle.vb_calls.specs.declared.span.Span.{Span}
use Rattle.vb_journal.specs.UnderArms.{all_pass, burnt_noting}
use Rattle.vb_types.specs.declared.journal.Batch.{Batch}
use Rattle.vb_types.specs.declared.journal.FlushPart.TheVariants as part
use Rattle.vb_types.specs.declared.journal.Record.{Record}
use Rattle.vb_types.specs.declared.journal.Record.TheVariants as noted
use Rattle.vb_types.specs.declared.status.Status.{Status}
use Rattle.disk_journals.specs.Asking.{disk_asks, failed_at, failed_shelf}
use Rattle.vb_calls.specs.Faults.{IsFailure}
use Rattle.disk_journals.specs.Laws.{broken_off, LeavesShelf, HasLogOfTake, LeavesNoBatch, IsShut, FailsShut, AppendsFirst, RollsAppendFirst}
use Rattle.disk_journals.specs.Devices.{Device}
use Rattle.disk_journals.specs.Seen.{Seen}
use Rattle.disk_journals.specs.Steps.{roll_refusal}
use Rattle.disk_journals.specs.Stands.{ShelvesStand}
use Rattle.disk_journals.proofs.Appends.{closed_fate, failed_fate, stood_fate}
use Rattle.disk_journals.proofs.Rolling.{refused_job, rollable_is}

-- the journal that was put there
put_here : (shelves : Shelves) (v : ℕ) (shelf : Shelf) → with_shelf_at shelves v shelf v ≡ Some shelf
put_here shelves v shelf = ap (λ b. if b then Some shelf else shelves v) (eq-eqb v v refl)

-- a request of a job over plain journals, by what stands there
requested : {A : Type 0} (v : ℕ) (ask : Ask) (next : Got ask → Job A) (states : States) (shelves : Shelves) (shelf : Shelf) → shelves v ≡ Some shelf
    → after_job (Request v ask next) states shelves ≡ after_job (next (shelf_step shelf ask).1) states (with_shelf_at shelves v (shelf_step shelf ask).0)
requested v ask next states shelves shelf e = ap (λ (o : Option Shelf). after_job (next (ask_at shelves v ask o).1) states (ask_at shelves v ask o).0) e

called : {A : Type 0} (v : ℕ) (c : VbCall) (next : Option VbReply → Job A) (states : States) (shelves : Shelves) (vb : Plain) → states v ≡ Some vb
    → after_job (Call v c next) states shelves ≡ after_job (next (Some (plain_step vb c).1)) (call_at states v c (Some vb)).0 shelves
called v c next states shelves vb e = ap (λ (o : Option Plain). after_job (next (call_at states v c o).1) (call_at states v c o).0 shelves) e

taken_law : (states : States) (shelves : Shelves) (v : ℕ) (vb : Plain) (span : Span) (shelf : Shelf)
    → states v ≡ Some vb → shelves v ≡ Some shelf → shelf.flush ≡ Idle → unflushed_span vb ≡ Some span
    → LeavesShelf v (after_job (flush_job v part.Take) states shelves).0 (record shelf { flush = Out (batch_of vb span) })
unfolding flush_job
taken_law states shelves v vb span shelf here there idle unflushed =
    let batch : Batch = batch_of vb span in
    let one : Shelves = with_shelf_at shelves v shelf in
    let k : Option VbReply → Job Flushed = λ reply. taken_job v (λ (b : Batch). Ended (took b)) (batch_of_reply reply) in
    let P : (States × Shelves) × Flushed → Type 0 = λ r. LeavesShelf v r.0 (record shelf { flush = Out batch }) in
    subst P (sym (requested v Look (part_job v part.Take) states shelves shelf there))
    (subst (λ (f : Flush). P (after_job (part_job v part.Take f) states one)) (sym idle)
    (subst P (sym (called v call.FlushTake k states one vb here))
    (subst (λ (o : Option Span). P (after_job (k (Some (flush_from o vb).1)) (with_vb_at states v (flush_from o vb).0) one)) (sym unflushed)
    (subst P (sym (requested v (Keep (Out batch)) (λ kept. Ended (took batch)) (with_vb_at states v (flush_from (Some span) vb).0) one shelf (put_here shelves v shelf)))
    (put_here one v (record shelf { flush = Out batch }))))))

-- a save of the batch that was taken, by what its append comes to
module _ (states : States) (shelves : Shelves) (v : ℕ) (batch : Batch) (shelf : Shelf) (there : shelves v ≡ Some shelf) (out : shelf.flush ≡ Out batch) where
  abbrev what : Record
  what = noted.Rows batch

  abbrev one : Shelves
  one = with_shelf_at shelves v shelf

  saved_as : (fate : Fate) → fate_of shelf ≡ fate → (left : Flush) (told : Flushed) → appended_job v batch (Ended flushed.Saved) fate ≡ Request v (Keep left) (λ kept. Ended told)
      → LeavesShelf v (after_job (flush_job v part.Save) states shelves).0 (record (after_fate shelf what fate) { flush = left })
  unfolding flush_job
  saved_as fate came left told next =
      let k : Fate → Job Flushed = appended_job v batch (Ended flushed.Saved) in
      let more : Shelf = after_fate shelf what fate in
      let two : Shelves = with_shelf_at one v more in
      let last : Shelf = record more { flush = left } in
      let P : (States × Shelves) × Flushed → Type 0 = λ r. LeavesShelf v r.0 last in
      subst P (sym (requested v Look (part_job v part.Save) states shelves shelf there))
      (subst (λ (f : Flush). P (after_job (part_job v part.Save f) states one)) (sym out)
      (subst P (sym (requested v (Append what) k states one shelf (put_here shelves v shelf)))
      (subst (λ (f : Fate). P (after_job (k f) states (with_shelf_at one v (after_fate shelf what f)))) (sym came)
      (subst (λ (j : Job Flushed). P (after_job j states two)) (sym next)
      (subst P (sym (requested v (Keep left) (λ kept. Ended told) states two more (put_here one v more)))
      (put_here two v last))))))

saved_law : (states : States) (shelves : Shelves) (v : ℕ) (batch : Batch) (shelf : Shelf)
    → shelves v ≡ Some shelf → shelf.is_closed ≡ false → shelf.flush ≡ Out batch → all_pass shelf.fuse ≡ true
    → LeavesShelf v (after_job (flush_job v part.Save) states shelves).0 (record shelf { book = noted.Rows batch ∷ shelf.book; flush = Written batch.position.at; fuse = burnt_noting shelf.fuse })
saved_law states shelves v batch shelf there is_open out pass = saved_as states shelves v batch shelf there out Stood (stood_fate shelf is_open pass) (Written batch.position.at) flushed.Saved refl

broken_law : (states : States) (shelves : Shelves) (v : ℕ) (batch : Batch) (shelf : Shelf)
    → shelves v ≡ Some shelf → shelf.is_closed ≡ false → shelf.flush ≡ Out batch → all_pass shelf.fuse ≡ false
    → LeavesShelf v (after_job (flush_job v part.Save) states shelves).0 (broken_off batch shelf)
broken_law states shelves v batch shelf there is_open out hit = saved_as states shelves v batch shelf there out DiskFailed (failed_fate shelf is_open hit) Idle flushed.DiskFailed refl

pub log_of_take : HasLogOfTake
log_of_take = record { taken = taken_law; log = λ vb span. refl; saved = saved_law; broken = broken_law }

is_out : (v : ℕ) (flush : Flush) → flush ≢ Idle → part_job v part.Take flush ≡ Ended flushed.BatchOut
is_out v Idle out = absurd (out refl)
is_out v (Out batch) out = refl
is_out v (Written seq) out = refl

refused_law : (states : States) (shelves : Shelves) (v : ℕ) (shelf : Shelf) → shelves v ≡ Some shelf → shelf.flush ≢ Idle
    → ((after_job (flush_job v part.Take) states shelves).0.0 ≡ states) × LeavesShelf v (after_job (flush_job v part.Take) states shelves).0 shelf
unfolding flush_job
refused_law states shelves v shelf there out =
    let P : (States × Shelves) × Flushed → Type 0 = λ r. (r.0.0 ≡ states) × LeavesShelf v r.0 shelf in
    subst P (sym (requested v Look (part_job v part.Take) states shelves shelf there))
    (subst (λ (j : Job Flushed). P (after_job j states (with_shelf_at shelves v shelf))) (sym (is_out v shelf.flush out)) (refl, put_here shelves v shelf))

closed_law : (states : States) (shelves : Shelves) (v : ℕ) (batch : Batch) (shelf : Shelf) → shelves v ≡ Some shelf → shelf.is_closed ≡ true → shelf.flush ≡ Out batch
    → LeavesShelf v (after_job (flush_job v part.Save) states shelves).0 (record shelf { flush = Idle })
closed_law states shelves v batch shelf there closed out = saved_as states shelves v batch shelf there out WasClosed (closed_fate shelf closed) Idle flushed.Closed refl

finished_law : (states : States) (shelves : Shelves) (v seq : ℕ) (shelf : Shelf) → shelves v ≡ Some shelf → shelf.flush ≡ Written seq
    → LeavesShelf v (after_job (flush_job v part.Done) states shelves).0 (record shelf { flush = Idle })
unfolding flush_job
finished_law states shelves v seq shelf there written =
    let one : Shelves = with_shelf_at shelves v shelf in
    let left : Shelf = record shelf { flush = Idle } in
    let told = call_at states v (call.FlushDone seq) (states v) in
    let P : (States × Shelves) × Flushed → Type 0 = λ r. LeavesShelf v r.0 left in
    subst P (sym (requested v Look (part_job v part.Done) states shelves shelf there))
    (subst (λ (f : Flush). P (after_job (part_job v part.Done f) states one)) (sym written)
    (subst P (sym (requested v (Keep Idle) (λ kept. Ended (flushed.Done told.1)) told.0 one shelf (put_here shelves v shelf)))
    (put_here one v left)))

pub no_batch : LeavesNoBatch
no_batch = record { refused = refused_law; closed = closed_law; finished = finished_law }

-- the journal at v stands for this one
record StandsAt {D : Type 0} (dev : Device D) (slots : List (Seen D)) (v : ℕ) (shelf : Shelf) : Type 0 where
  shelves : Shelves
  stands : ShelvesStand dev slots shelves
  here : shelves v ≡ Some shelf

module _ {D : Type 0} (dev : Device D) where
  stands_at : (slots : List (Seen D)) (v : ℕ) (shelves : Shelves) (shelf : Shelf) → ShelvesStand dev slots (with_shelf_at shelves v shelf) → StandsAt dev slots v shelf
  stands_at slots v shelves shelf stand = record { shelves = with_shelf_at shelves v shelf; stands = stand; here = put_here shelves v shelf }

  -- what is known of a request, at the journal that was asked
  asks_here : (old : List (Seen D)) (v : ℕ) (ask : Ask) (got : Got ask) (new : List (Seen D)) (shelf : Shelf) → disk_asks dev old v ask got new → StandsAt dev old v shelf
      → ((got ≡ (shelf_step shelf ask).1) × StandsAt dev new v (shelf_step shelf ask).0) ⊎ (IsFailure ask got × StandsAt dev new v (failed_shelf shelf ask))
  unfolding disk_asks
  asks_here old v ask got new shelf asks at = elim (asks.plainly at.shelves at.stands) [
    | inl plain ↦ inl (
      plain.0 ∙ ap (λ (o : Option Shelf). (ask_at at.shelves v ask o).1) at.here,
      stands_at new v at.shelves (shelf_step shelf ask).0 (subst (λ (o : Option Shelf). ShelvesStand dev new (ask_at at.shelves v ask o).0) at.here plain.1),
    )
    | inr failed ↦ inr (
      failed.1,
      stands_at new v at.shelves (failed_shelf shelf ask) (subst (λ (o : Option Shelf). ShelvesStand dev new (failed_at at.shelves v ask o)) at.here failed.2),
    )
  ]

  module _ {W : Type 0} (step : W → ℕ → VbCall → Option VbReply → W → Type 0) (v : ℕ) (shelf : Shelf) where
    shut_kept : (batch : Batch) (mid new : List (Seen D)) (kept : Unit {0}) → shelf.flush ≡ Out batch → disk_asks dev mid v (Keep Idle) kept new → StandsAt dev mid v (after_fate shelf (noted.Rows batch) DiskFailed) → IsShut dev v shelf new
    shut_kept batch mid new kept out asks at = elim (asks_here mid v (Keep Idle) kept new (after_fate shelf (noted.Rows batch) DiskFailed) asks at) [
      | inl plain ↦ record { batch = batch; was_out = out; shelves = plain.1.shelves; stands = plain.1.stands; here = plain.1.here }
      | inr failed ↦ absurd failed.0
    ]

    -- after an append that failed
    shut_at : (batch : Batch) (mid mids : List (Seen D)) → disk_asks dev mid v (Append (noted.Rows batch)) DiskFailed mids → StandsAt dev mid v shelf → StandsAt dev mids v (after_fate shelf (noted.Rows batch) DiskFailed)
    shut_at batch mid mids asks at = elim (asks_here mid v (Append (noted.Rows batch)) DiskFailed mids shelf asks at) [
      | inl plain ↦ subst (λ f. StandsAt dev mids v (after_fate shelf (noted.Rows batch) f)) (sym plain.0) plain.1
      | inr failed ↦ failed.1
    ]

    shut_by : (batch : Batch) (mid mids : List (Seen D)) (w w' : W) (new : List (Seen D)) (fate : Fate) → shelf.flush ≡ Out batch → disk_asks dev mid v (Append (noted.Rows batch)) fate mids → StandsAt dev mid v shelf
        → RanJob step (disk_asks dev) (appended_job v batch (Ended flushed.Saved) fate) w mids flushed.DiskFailed w' new → IsShut dev v shelf new
    shut_by batch mid mids w w' new Stood out asks at rest = absurd (other rest.3.0)
      where
        other : flushed.DiskFailed ≡ flushed.Saved → ⊥
        other e = cc
    shut_by batch mid mids w w' new WasClosed out asks at rest = absurd (other rest.3.0)
      where
        other : flushed.DiskFailed ≡ flushed.Closed → ⊥
        other e = cc
    shut_by batch mid mids w w' new DiskFailed out asks at rest =
        subst (λ j. IsShut dev v shelf j) (sym rest.3.2) (shut_kept batch mids rest.1 rest.0 out rest.2 (shut_at batch mid mids asks at))

    shut_from : (flush : Flush) (mid : List (Seen D)) (w w' : W) (new : List (Seen D)) → flush ≡ shelf.flush → StandsAt dev mid v shelf → RanJob step (disk_asks dev) (save_job v flush) w mid flushed.DiskFailed w' new → IsShut dev v shelf new
    shut_from Idle mid w w' new is at rest = absurd (nothing rest.0)
      where
        nothing : flushed.DiskFailed ≡ flushed.NothingTaken → ⊥
        nothing e = cc
    shut_from (Written seq) mid w w' new is at rest = absurd (nothing rest.0)
      where
        nothing : flushed.DiskFailed ≡ flushed.NothingTaken → ⊥
        nothing e = cc
    shut_from (Out batch) mid w w' new is at rest = shut_by batch mid rest.1 w w' new rest.0 (sym is) rest.2 at rest.3

  pub fails_shut : {W : Type 0} (step : W → ℕ → VbCall → Option VbReply → W → Type 0) → FailsShut step dev
  unfolding flush_job
  fails_shut step v w old w' new shelves shelf ran stand here = elim (asks_here old v Look ran.0 ran.1 shelf ran.2 (record { shelves = shelves; stands = stand; here = here })) [
    | inl plain ↦ shut_from step v shelf ran.0 ran.1 w w' new plain.0 plain.1 ran.3
    | inr failed ↦ absurd failed.0
  ]

reads_first : (v named : ℕ) (reading : Reading) → AppendsFirst (read_job v named reading)
reads_first v named (Book book) = ((tt, λ kept. (λ at to. cc to, λ reply formed. tt)), tt, tt)
reads_first v named Shut = tt
reads_first v named Unread = tt
reads_first v named (Broken place) = tt

refused_first : (v named : ℕ) (refusal : Option Status) → AppendsFirst (refused_job v named refusal)
refused_first v named None = reads_first v named
refused_first v named (Some st) = tt

pub rolls_first : RollsAppendFirst
unfolding roll_job
rolls_first v named = (refl, λ reply. subst (λ (job : Job Rolled). AppendsFirst job) (sym (rollable_is v named reply)) (refused_first v named (roll_refusal reply)))
