-- which journals are closed, whatever their disks tell
use Rattle.std.proofs.Common.{◌≡◌, ◌≢◌, ℕ, Bool, true, false, List, Option, Some, None, refl, ap, sym, ◌∙◌, subst}
use Rattle.std.specs.Prelude.{◌==◌, ◌↔◌}
use Rattle.std.specs.Option.{option_map}
use Rattle.std.proofs.lemmas.Bool.{eqb-true, eqb-false}
use Rattle.vb_types.specs.declared.journal.Record.{Record}
use Rattle.vb_calls.specs.Faults.{IsFailure}
use Rattle.vb_calls.specs.Shelves.{Ask, Append, Read, Look, Keep, Got, Fate, Stood, WasClosed, DiskFailed, Reading, Shut}
use Rattle.vb_disk.specs.Counts.{Rose}
use Rattle.disk_journals.specs.Anyhow.{AnswersSo, AnsweredThere, failures_at}
use Rattle.disk_journals.specs.Asking.{disk_asks}
use Rattle.disk_journals.specs.Closing.{ClosesOnce, closed_at}
use Rattle.disk_journals.specs.Counting.{disk_counted}
use Rattle.disk_journals.specs.Devices.{Device}
use Rattle.disk_journals.specs.Seen.{Seen, seen_at}

is_closed : (b : Bool) → (b ≡ true) ↔ (Some b ≢ Some false)
is_closed true = (λ e f. cc, λ n. refl)
is_closed false = (λ e. cc, λ n. absurd (n refl))

is_open : (b : Bool) → (b ≡ false) ↔ (Some b ≡ Some false)
is_open true = (λ e. cc, λ e. cc)
is_open false = (λ e. refl, λ e. refl)

-- a record that stands needs a journal that was open, and an append that fails closes it
closed_by : (b : Bool) (fate : Fate) → fate ≡ WasClosed → (fate ≡ Stood) ↔ (b ≡ false) → b ≡ true
closed_by true fate e h = refl
closed_by false fate e h = absurd (cc (sym e ∙ h.1 refl))

failed_by : (fate : Fate) (b c : Bool) → b ≡ false → c ≡ true → (fate ≡ WasClosed) ↔ (b ≡ true) → (fate ≡ Stood) ↔ (c ≡ false) → fate ≡ DiskFailed
failed_by Stood b c open_then closed_now was is = absurd (cc (sym closed_now ∙ is.0 refl))
failed_by WasClosed b c open_then closed_now was is = absurd (cc (sym open_then ∙ was.0 refl))
failed_by DiskFailed b c open_then closed_now was is = refl

some_is : {a b : Bool} → Some a ≡ Some b → a ≡ b
some_is e = cc

module _ {D : Type 0} (dev : Device D) where
  abbrev closed_in : Option (Seen D) → Option Bool
  closed_in o = option_map (λ s. s.journal.closed) o

  append_in : (what : Record) (fate : Fate) (o n : Option (Seen D)) → AnsweredThere dev o (Append what) fate n → (fate ≡ WasClosed) ↔ (closed_in o ≢ Some false)
  append_in what fate (Some old) (Some new) h =
      (λ e. (is_closed old.journal.closed).0 (h.so.was_closed.0 e), λ n. h.so.was_closed.1 ((is_closed old.journal.closed).1 n))
  append_in what fate None None h = (λ e f. cc, λ n. h)
  append_in what fate None (Some new) h = absurd h
  append_in what fate (Some old) None h = absurd h

  stands_in : (what : Record) (fate : Fate) (o n : Option (Seen D)) → AnsweredThere dev o (Append what) fate n → (fate ≡ Stood) ↔ (closed_in n ≡ Some false)
  stands_in what fate (Some old) (Some new) h =
      (λ e. (is_open new.journal.closed).0 (h.so.is_open.0 e), λ e. h.so.is_open.1 ((is_open new.journal.closed).1 e))
  stands_in what fate None None h = (λ e. absurd (cc (sym h ∙ e)), λ e. cc)
  stands_in what fate None (Some new) h = absurd h
  stands_in what fate (Some old) None h = absurd h

  read_in : (reading : Reading) (o n : Option (Seen D)) → AnsweredThere dev o Read reading n → (reading ≡ Shut) ↔ (closed_in o ≢ Some false)
  read_in reading (Some old) (Some new) h =
      (λ e. (is_closed old.journal.closed).0 (h.so.was_closed.0 e), λ n. h.so.was_closed.1 ((is_closed old.journal.closed).1 n))
  read_in reading None None h = (λ e f. cc, λ n. h)
  read_in reading None (Some new) h = absurd h
  read_in reading (Some old) None h = absurd h

  reads_in : (reading : Reading) (o n : Option (Seen D)) → AnsweredThere dev o Read reading n → closed_in n ≡ closed_in o
  reads_in reading (Some old) (Some new) h = ap Some h.so.rests.closed
  reads_in reading None None h = refl
  reads_in reading None (Some new) h = absurd h
  reads_in reading (Some old) None h = absurd h

  stays_so : (old new : Seen D) (ask : Ask) (got : Got ask) → AnswersSo dev old ask got new → old.journal.closed ≡ true → new.journal.closed ≡ true
  stays_so old new (Append what) fate so closed = closed_by new.journal.closed fate (so.was_closed.1 closed) so.is_open
  stays_so old new Read reading so closed = so.rests.closed ∙ closed
  stays_so old new Look flush so closed = so.rests.closed ∙ closed
  stays_so old new (Keep flush) kept so closed = ap (λ j. j.closed) so.journal ∙ closed

  stays_in : (ask : Ask) (got : Got ask) (o n : Option (Seen D)) → AnsweredThere dev o ask got n → closed_in o ≡ Some true → closed_in n ≡ Some true
  stays_in ask got (Some old) (Some new) h closed = ap Some (stays_so old new ask got h.so (some_is closed))
  stays_in ask got None None h closed = cc
  stays_in ask got None (Some new) h closed = absurd h
  stays_in ask got (Some old) None h closed = absurd h

  -- a journal that is open, and then closed
  both : (b : Bool) → b ≡ true → b ≡ false → ⊥
  both true e f = cc
  both false e f = cc

  fails_so : (old new : Seen D) (ask : Ask) (got : Got ask) → AnswersSo dev old ask got new → old.journal.closed ≡ false → new.journal.closed ≡ true → IsFailure ask got
  fails_so old new (Append what) fate so open_then closed_now = failed_by fate old.journal.closed new.journal.closed open_then closed_now so.was_closed so.is_open
  fails_so old new Read reading so open_then closed_now = absurd (both new.journal.closed closed_now (so.rests.closed ∙ open_then))
  fails_so old new Look flush so open_then closed_now = absurd (both new.journal.closed closed_now (so.rests.closed ∙ open_then))
  fails_so old new (Keep flush) kept so open_then closed_now = absurd (both new.journal.closed closed_now (ap (λ j. j.closed) so.journal ∙ open_then))

  fails_in : (ask : Ask) (got : Got ask) (o n : Option (Seen D)) → AnsweredThere dev o ask got n → closed_in o ≡ Some false → closed_in n ≡ Some true → IsFailure ask got
  fails_in ask got (Some old) (Some new) h open_then closed_now = fails_so old new ask got h.so (some_is open_then) (some_is closed_now)
  fails_in ask got None None h open_then closed_now = cc
  fails_in ask got None (Some new) h open_then closed_now = absurd h
  fails_in ask got (Some old) None h open_then closed_now = absurd h

  clash : (o p : Option Bool) → o ≡ p → p ≡ Some false → o ≡ Some true → ⊥
  clash o p same e f = cc (sym f ∙ same ∙ e)

  pub closes_once : ClosesOnce dev
  unfolding disk_asks
  closes_once = record {
    append = λ old new v what fate d. append_in what fate (seen_at old v) (seen_at new v) d.anyhow;
    stands = λ old new v what fate d. stands_in what fate (seen_at old v) (seen_at new v) d.anyhow;
    read = λ old new v reading d. read_in reading (seen_at old v) (seen_at new v) d.anyhow;
    reads = λ old new v w reading d. reads_by old new v w reading (w == v) refl (d.anyhow) (d.others w);
    stays = λ old new v w ask got d. stays_by old new v w ask got (w == v) refl d.anyhow (d.others w);
    closes = λ old new v w ask got d. closes_by old new v w ask got (w == v) refl d;
  }
    where
      reads_by : (old new : List (Seen D)) (v w : ℕ) (reading : Reading) (b : Bool) → (w == v) ≡ b → AnsweredThere dev (seen_at old v) Read reading (seen_at new v) → (w ≢ v → seen_at new w ≡ seen_at old w) → closed_at new w ≡ closed_at old w
      reads_by old new v w reading true e h others = subst (λ n. closed_at new n ≡ closed_at old n) (sym (eqb-true w v e)) (reads_in reading (seen_at old v) (seen_at new v) h)
      reads_by old new v w reading false e h others = ap closed_in (others (eqb-false w v e))

      stays_by : (old new : List (Seen D)) (v w : ℕ) (ask : Ask) (got : Got ask) (b : Bool) → (w == v) ≡ b → AnsweredThere dev (seen_at old v) ask got (seen_at new v) → (w ≢ v → seen_at new w ≡ seen_at old w) → closed_at old w ≡ Some true → closed_at new w ≡ Some true
      stays_by old new v w ask got true e h others closed =
          let same = eqb-true w v e in
          subst (λ n. closed_at new n ≡ Some true) (sym same) (stays_in ask got (seen_at old v) (seen_at new v) h (subst (λ n. closed_at old n ≡ Some true) same closed))
      stays_by old new v w ask got false e h others closed = ap closed_in (others (eqb-false w v e)) ∙ closed

      closes_by : (old new : List (Seen D)) (v w : ℕ) (ask : Ask) (got : Got ask) (b : Bool) → (w == v) ≡ b → disk_asks dev old v ask got new → closed_at old w ≡ Some false → closed_at new w ≡ Some true → (w ≡ v) × IsFailure ask got × Rose (failures_at dev old v) (failures_at dev new v)
      closes_by old new v w ask got true e d open_then closed_now =
          let same = eqb-true w v e in
          let failed = fails_in ask got (seen_at old v) (seen_at new v) d.anyhow (subst (λ n. closed_at old n ≡ Some false) same open_then) (subst (λ n. closed_at new n ≡ Some true) same closed_now) in
          (same, failed, (disk_counted dev old v ask got new d).rose failed)
      closes_by old new v w ask got false e d open_then closed_now = absurd (clash (closed_at new w) (closed_at old w) (ap closed_in (d.others w (eqb-false w v e))) open_then closed_now)
