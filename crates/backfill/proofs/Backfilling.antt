-- what a backfill comes to
use Rattle.std.proofs.Common.{◌≡◌, ◌⊎◌, inl, inr, ℕ, Bool, List, refl, sym, ap, subst, ⊎_elim}
use Rattle.std.specs.Prelude.{◌↔◌, Option, Some, None}
use Rattle.vb_types.specs.Histories.{Rises}
use Rattle.vb_types.specs.declared.journal.Record.{Record}
use Rattle.vb_types.specs.declared.stream.Snapshot.{Snapshot}
use Rattle.journal_points.specs.Points.{standing}
use Rattle.vb_calls.specs.Faults.{AreCounted}
use Rattle.vb_calls.specs.Shelves.{Ask, Read, Got, Reading, Book, Shut, Unread, Broken}
use Rattle.vb_calls.specs.declared.calls.VbCall.{VbCall}
use Rattle.vb_calls.specs.declared.calls.VbReply.{VbReply}
use Rattle.backfill.specs.Backfills.{backfilled, disk_snapshot_of, found}
use Rattle.backfill.specs.Laws.{BackfillsReadOnce, Gives, HasOfBook}
use Rattle.backfill.specs.declared.backfilled.Backfilled.TheVariants as filled
use Rattle.backfill.proofs.Disks.{gives_what_is_due}

none_found : (o : Option Snapshot) → found o ≡ filled.Nothing → o ≡ None
none_found None e = refl
none_found (Some s) e = cc

some_found : (o : Option Snapshot) (s : Snapshot) → found o ≡ filled.Snapshot s → o ≡ Some s
some_found None s e = cc
some_found (Some t) s e = cc

not_disk : (o : Option Snapshot) → found o ≡ filled.Disk → ⊥
not_disk None e = cc
not_disk (Some s) e = cc

-- a journal that can't be read
abbrev IsFault : Reading → Type 0
IsFault reading = (reading ≡ Shut) ⊎ ((reading ≡ Unread) ⊎ ((place : ℕ) × (reading ≡ Broken place)))

faults : (reading : Reading) (start end : ℕ) (sync : Bool) → (backfilled start end sync reading ≡ filled.Disk) ↔ IsFault reading
unfolding backfilled
faults (Book book) start end sync = (λ e. absurd (not_disk (disk_snapshot_of book start end sync) e), λ f. ⊎_elim (λ e. cc) (⊎_elim (λ e. cc) (λ k. cc k.1)) f)
faults Shut start end sync = (λ e. inl refl, λ f. refl)
faults Unread start end sync = (λ e. inr (inl refl), λ f. refl)
faults (Broken place) start end sync = (λ e. inr (inr (place, refl)), λ f. refl)

has_of_book : (book : List Record) (start end top : ℕ) (sync : Bool) → Rises 0 top (standing book) → HasOfBook book start end sync (found (disk_snapshot_of book start end sync))
has_of_book book start end top sync rises =
    let gives : Gives book start end sync = gives_what_is_due book top start end sync rises in record {
      nothing = (λ e. gives.nothing.0 (none_found (disk_snapshot_of book start end sync) e), λ none. ap found (gives.nothing.1 none));
      snapshot = λ s e. gives.some s (some_found (disk_snapshot_of book start end sync) s e);
    }

has_of : (reading : Reading) (start end : ℕ) (sync : Bool) (book : List Record) (top : ℕ) → reading ≡ Book book → Rises 0 top (standing book) → HasOfBook book start end sync (backfilled start end sync reading)
unfolding backfilled
has_of reading start end sync book top is rises =
    subst (λ r. HasOfBook book start end sync (backfilled start end sync r)) (sym is) (has_of_book book start end top sync rises)

module _ {W J : Type 0} (step : W → ℕ → VbCall → Option VbReply → W → Type 0) (asks : J → ℕ → (ask : Ask) → Got ask → J → Type 0) (failures : J → ℕ → ℕ) (counted : AreCounted asks failures) where
  pub reads_once : BackfillsReadOnce step asks failures
  reads_once v start end sync old kept came new left ran =
      let is : came ≡ backfilled start end sync ran.0 = ran.3.0 in record {
        reading = ran.0;
        asked = subst (asks kept v Read ran.0) (sym ran.3.2) ran.2;
        untouched = ran.3.1;
        disk = subst (λ b. (b ≡ filled.Disk) ↔ IsFault ran.0) (sym is) (faults ran.0 start end sync);
        failed = λ e. (counted kept v Read ran.0 left (subst (asks kept v Read ran.0) (sym ran.3.2) ran.2)).rose e;
        book = λ book top read rises. subst (HasOfBook book start end sync) (sym is) (has_of ran.0 start end sync book top read rises);
      }
