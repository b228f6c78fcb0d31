-- which batches are on their way, whatever disks tell
use Rattle.std.proofs.Common.{◌≡◌, ◌≢◌, ℕ, Bool, true, false, List, Option, Some, None, refl, ap, sym, subst}
use Rattle.std.specs.Prelude.{◌==◌, is_some}
use Rattle.std.proofs.lemmas.Bool.{eqb-true, eqb-false}
use Rattle.vb_types.specs.declared.journal.Record.{Record}
use Rattle.vb_calls.specs.Shelves.{Ask, Append, Read, Look, Keep, Got, Flush, Fate, Reading}
use Rattle.disk_journals.specs.Anyhow.{AnsweredThere, failures_in}
use Rattle.disk_journals.specs.Asking.{disk_asks}
use Rattle.disk_journals.specs.Devices.{Device}
use Rattle.disk_journals.specs.OnTheirWay.{BatchesStay}
use Rattle.disk_journals.specs.Seen.{Seen, flush_in, flush_of, seen_at}

module _ {D : Type 0} (dev : Device D) where
  look_in : (flush : Flush) (o n : Option (Seen D)) → AnsweredThere dev o Look flush n → flush ≡ flush_in o
  look_in flush (Some old) (Some new) h = h.so.answer
  look_in flush None None h = h
  look_in flush None (Some new) h = absurd h
  look_in flush (Some old) None h = absurd h

  keep_in : (flush : Flush) (o n : Option (Seen D)) → is_some o ≡ true → AnsweredThere dev o (Keep flush) tt n → flush_in n ≡ flush
  keep_in flush (Some old) (Some new) t h = h.so.kept
  keep_in flush None n t h = absurd (cc)
  keep_in flush (Some old) None t h = absurd h

  append_in : (what : Record) (fate : Fate) (o n : Option (Seen D)) → AnsweredThere dev o (Append what) fate n → flush_in n ≡ flush_in o
  append_in what fate (Some old) (Some new) h = ap flush_of h.so.batch
  append_in what fate None None h = refl
  append_in what fate None (Some new) h = absurd h
  append_in what fate (Some old) None h = absurd h

  read_in : (reading : Reading) (o n : Option (Seen D)) → AnsweredThere dev o Read reading n → flush_in n ≡ flush_in o
  read_in reading (Some old) (Some new) h = ap flush_of h.so.rests.batch
  read_in reading None None h = refl
  read_in reading None (Some new) h = absurd h
  read_in reading (Some old) None h = absurd h

  stay_in : (flush : Flush) (o n : Option (Seen D)) → AnsweredThere dev o Look flush n → flush_in n ≡ flush_in o
  stay_in flush (Some old) (Some new) h = ap flush_of h.so.rests.batch
  stay_in flush None None h = refl
  stay_in flush None (Some new) h = absurd h
  stay_in flush (Some old) None h = absurd h

  there_in : (ask : Ask) (got : Got ask) (o n : Option (Seen D)) → AnsweredThere dev o ask got n → is_some n ≡ is_some o
  there_in ask got (Some old) (Some new) h = refl
  there_in ask got None None h = refl
  there_in ask got None (Some new) h = absurd h
  there_in ask got (Some old) None h = absurd h

  none_in : (o : Option (Seen D)) → is_some o ≢ true → failures_in dev o ≡ 0
  none_in None n = refl
  none_in (Some s) n = absurd (n refl)

  -- what holds of the journal that was asked and of each other one holds of all
  at_each : {T : Type 0} (f : Option (Seen D) → T) (old new : List (Seen D)) (v w : ℕ) (b : Bool) → (w == v) ≡ b → f (seen_at new v) ≡ f (seen_at old v) → (w ≢ v → seen_at new w ≡ seen_at old w) → f (seen_at new w) ≡ f (seen_at old w)
  at_each f old new v w true e here others = subst (λ n. f (seen_at new n) ≡ f (seen_at old n)) (sym (eqb-true w v e)) here
  at_each f old new v w false e here others = ap f (others (eqb-false w v e))

  pub batches_stay : BatchesStay dev
  unfolding disk_asks
  batches_stay = record {
    looks = λ old new v flush d. look_in flush (seen_at old v) (seen_at new v) d.anyhow;
    keeps = λ old new v flush t d. keep_in flush (seen_at old v) (seen_at new v) t d.anyhow;
    appends = λ old new v w what fate d. at_each flush_in old new v w (w == v) refl (append_in what fate (seen_at old v) (seen_at new v) d.anyhow) (d.others w);
    reads = λ old new v w reading d. at_each flush_in old new v w (w == v) refl (read_in reading (seen_at old v) (seen_at new v) d.anyhow) (d.others w);
    stays = λ old new v w flush d. at_each flush_in old new v w (w == v) refl (stay_in flush (seen_at old v) (seen_at new v) d.anyhow) (d.others w);
    others = λ old new v w ask got n d. ap flush_in (d.others w n);
    there = λ old new v w ask got d. at_each is_some old new v w (w == v) refl (there_in ask got (seen_at old v) (seen_at new v) d.anyhow) (d.others w);
    none = λ slots v n. none_in (seen_at slots v) n;
  }
