-- counts of failures rise as answers say
use Rattle.std.proofs.Common.{◌≡◌, ℕ, ◌≤◌, Bool, true, false, Option, Some, None, refl, ap, sym, subst}
use Rattle.std.specs.Prelude.{◌==◌}
use Rattle.std.proofs.Math.Nat.{le_refl}
use Rattle.std.proofs.lemmas.Bool.{eqb-true, eqb-false}
use Rattle.vb_disk.specs.Counts.{Rose}
use Rattle.vb_calls.specs.Faults.{AreCounted, IsFailure}
use Rattle.vb_calls.specs.Shelves.{Ask, Append, Read, Look, Keep, Got, Fate, Stood, WasClosed, DiskFailed, Reading, Book, Shut, Unread, Broken, no_answer}
use Rattle.vb_journal.specs.Books.{failures_of}
use Rattle.disk_journals.specs.Anyhow.{AnswersSo, AnsweredThere, failures_in, failures_at}
use Rattle.disk_journals.specs.Asking.{disk_asks}
use Rattle.disk_journals.specs.Devices.{Device}
use Rattle.disk_journals.specs.Seen.{Seen, seen_at}

-- an append to a closed journal, and a read of one, are no failures of a disk
abbrev was_closed : Fate → Type 0
was_closed Stood = ⊥
was_closed WasClosed = Unit {0}
was_closed DiskFailed = ⊥

abbrev was_shut : Reading → Type 0
was_shut (Book book) = ⊥
was_shut Shut = Unit {0}
was_shut Unread = ⊥
was_shut (Broken place) = ⊥

module _ {D : Type 0} (dev : Device D) where
  never : (ask : Ask) → IsFailure ask (no_answer ask) → ⊥
  never (Append what) e = subst was_closed e tt
  never Read e = subst was_shut e tt
  never Look e = e
  never (Keep flush) e = e

  rose_so : (old new : Seen D) (ask : Ask) (got : Got ask) → AnswersSo dev old ask got new → IsFailure ask got → Rose (failures_of dev.storage old.journal) (failures_of dev.storage new.journal)
  rose_so old new (Append what) got so failed = so.failed failed
  rose_so old new Read got so failed = so.failed failed
  rose_so old new Look got so failed = absurd failed
  rose_so old new (Keep flush) got so failed = absurd failed

  later_in : (ask : Ask) (got : Got ask) (old new : Option (Seen D)) → AnsweredThere dev old ask got new → failures_in dev old ≤ failures_in dev new
  later_in ask got (Some old) (Some new) there = there.later
  later_in ask got None None there = le_refl 0
  later_in ask got None (Some new) there = absurd there
  later_in ask got (Some old) None there = absurd there

  rose_in : (ask : Ask) (got : Got ask) (old new : Option (Seen D)) → AnsweredThere dev old ask got new → IsFailure ask got → Rose (failures_in dev old) (failures_in dev new)
  rose_in ask got (Some old) (Some new) there failed = rose_so old new ask got there.so failed
  rose_in ask got None None there failed = absurd (never ask (subst (IsFailure ask) there failed))
  rose_in ask got None (Some new) there failed = absurd there
  rose_in ask got (Some old) None there failed = absurd there

  -- so it is of each request to these journals
  pub disk_counted : AreCounted (disk_asks dev) (failures_at dev)
  unfolding disk_asks
  disk_counted old v ask got new asked = record {
    later = λ w. later w (w == v) refl;
    rose = rose_in ask got (seen_at old v) (seen_at new v) asked.anyhow;
  }
    where
      same : (a b : ℕ) → b ≡ a → a ≤ b
      same a b e = subst (λ n. a ≤ n) (sym e) (le_refl a)

      later : (w : ℕ) (b : Bool) → (w == v) ≡ b → failures_at dev old w ≤ failures_at dev new w
      later w true e = subst (λ n. failures_at dev old n ≤ failures_at dev new n) (sym (eqb-true w v e)) (later_in ask got (seen_at old v) (seen_at new v) asked.anyhow)
      later w false e = same (failures_at dev old w) (failures_at dev new w) (ap (failures_in dev) (asked.others w (eqb-false w v e)))
