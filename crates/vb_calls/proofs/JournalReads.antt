-- what a job that reads alone leaves
use Rattle.std.proofs.Common.{◌≡◌, ℕ, refl, sym, ap, subst}
use Rattle.vb_calls.specs.Jobs.{IsRead}
use Rattle.vb_calls.specs.Programs.{AnyCall}
use Rattle.vb_calls.specs.JournalReads.{ReadsInNumbers, ReadsLeaveJournals}
use Rattle.vb_calls.specs.Shelves.{Ask, Append, Read, Look, Keep, Shut}
use Rattle.vb_calls.proofs.JobReadings.{reads_leave}

is_read : (v : ℕ) (ask : Ask) → IsRead v ask → ask ≡ Read
is_read v Read reads = refl
is_read v (Append what) reads = absurd reads
is_read v Look reads = absurd reads
is_read v (Keep flush) reads = absurd reads

pub leave_journals : {A : Type 0} → ReadsLeaveJournals A
leave_journals = record {
  kept = λ job states shelves alone. ap (λ came. came.0.1) (reads_leave AnyCall (λ a. Unit {0}) job states shelves alone);
  made = λ job states shelves alone. ap (λ came. came.0.0) (reads_leave AnyCall (λ a. Unit {0}) job states shelves alone);
  said = λ job states shelves alone. ap (λ came. came.1) (reads_leave AnyCall (λ a. Unit {0}) job states shelves alone);
  reads = λ v ask. (is_read v ask, λ is. subst (λ (a : Ask). IsRead v a) (sym is) tt);
}

pub in_numbers : ReadsInNumbers
in_numbers = record {
  said = refl;
  told = refl;
  other = refl;
  kept = refl;
  closed = refl;
  reads = (tt, λ first. (tt, λ reply formed. (tt, λ second. tt)));
  appends = λ r alone. (alone.1 Shut).0;
  looks = λ alone. alone.0;
  keeps = λ flush alone. alone.0;
}
