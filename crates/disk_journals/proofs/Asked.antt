-- what is known of requests to journals, from what is known of one
use Rattle.std.proofs.Common.{◌≡◌, ◌⊎◌, inl, inr, ℕ, Bool, true, false, List, get_or, set, refl, ap, sym, ◌∙◌, subst, arith, Option, Some, None, IfSome}
use Rattle.std.specs.Prelude.{◌==◌, if◌then◌else◌}
use Rattle.std.specs.List.{position}
use Rattle.vb_calls.specs.Jobs.{Job, Request, BeganJob, IsUnasked}
use Rattle.vb_calls.specs.declared.calls.VbCall.{VbCall}
use Rattle.vb_calls.specs.declared.calls.VbReply.{VbReply}
use Rattle.vb_calls.specs.Faults.{IsFailure}
use Rattle.vb_calls.specs.Shelves.{Ask, Look, Keep, Got, Flush, Shelf, Shelves, shelf_step, with_shelf_at, no_answer, ask_at}
use Rattle.vb_disk.specs.declared.fuse.Fuse.{Fuse}
use Rattle.disk_journals.specs.Anyhow.{AnsweredThere, failures_in, failures_at}
use Rattle.disk_journals.specs.Asking.{AskedPlainly, FailsThere, failed_shelf, failed_at, SlotAnswers, SlotUnasked, disk_asks}
use Rattle.disk_journals.specs.Devices.{Device}
use Rattle.disk_journals.specs.Seen.{Seen, place_in, seen_at, flush_of, flush_in, flush_at}
use Rattle.disk_journals.specs.Stands.{LeavesAs, ShelfStands, StandsThere, ShelvesStand}
use Rattle.flusher.specs.declared.flusher.Flusher.{Flusher}
use Rattle.disk_journals.proofs.Places.{Changed, changed_here, ne-eqb, unchanged, at_place, at_set, no_place}

module _ {D : Type 0} (dev : Device D) where
  -- journals of which one changed stand for plain ones of which that one did
  pub with_one : (slots others : List (Seen D)) (shelves : Shelves) (v : ℕ) (new : Seen D) (shelf : Shelf) → Changed slots others v new → ShelvesStand dev slots shelves → ShelfStands dev new shelf → ShelvesStand dev others (with_shelf_at shelves v shelf)
  with_one slots others shelves v new shelf changed stand for = λ w. subst (λ o. StandsThere dev o (with_shelf_at shelves v shelf w)) (sym (changed.rows w)) (by w (w == v))
    where
      by : (w : ℕ) (b : Bool) → StandsThere dev (if b then Some new else seen_at slots w) (if b then Some shelf else shelves w)
      by w true = for
      by w false = stand w

  pub none_there : (o : Option Shelf) → StandsThere dev None o → o ≡ None
  none_there None h = refl
  none_there (Some shelf) h = absurd h

  -- a batch on its way is no part of what a crash leaves
  pub leaves_alike : (s : Seen D) (shelf : Shelf) (flush : Flush) → IfSome (dev.armed s.journal.disk) (λ f. LeavesAs dev s.journal shelf) → IfSome (dev.armed s.journal.disk) (λ f. LeavesAs dev s.journal (record shelf { flush = flush }))
  leaves_alike s shelf flush leaves = by (dev.armed s.journal.disk) leaves
    where
      by : (o : Option Fuse) → IfSome o (λ f. LeavesAs dev s.journal shelf) → IfSome o (λ f. LeavesAs dev s.journal (record shelf { flush = flush }))
      by None h = tt
      by (Some f) h = record { late = h.late; settled = h.settled; left = h.left }

  -- the plain answer, or a disk that failed, by what stands at the number
  abbrev AnsweredBy : List (Seen D) → ℕ → (ask : Ask) → Got ask → List (Seen D) → Shelves → Option Shelf → Type 0
  AnsweredBy old v ask got new shelves o =
      ((got ≡ (ask_at shelves v ask o).1) × ShelvesStand dev new (ask_at shelves v ask o).0)
      ⊎ (FailsThere dev (seen_at old v) (seen_at new v) × IsFailure ask got × ShelvesStand dev new (failed_at shelves v ask o))

  -- where there is none of that number
  pub none_asked : (slots : List (Seen D)) (v : ℕ) (ask : Ask) → seen_at slots v ≡ None → disk_asks dev slots v ask (no_answer ask) slots
  unfolding disk_asks
  none_asked slots v ask none = record { plainly = plainly; anyhow = subst (λ o. AnsweredThere dev o ask (no_answer ask) o) (sym none) refl; others = λ w other. refl }
    where
      plainly : AskedPlainly dev slots v ask (no_answer ask) slots
      plainly shelves stand =
          let e : shelves v ≡ None = none_there (shelves v) (subst (λ o. StandsThere dev o (shelves v)) none (stand v)) in
          subst (λ o. AnsweredBy slots v ask (no_answer ask) slots shelves o) (sym e) (inl (refl, stand))

  module _ (slots others : List (Seen D)) (v : ℕ) (ask : Ask) (got : Got ask) (old new : Seen D) (there : seen_at slots v ≡ Some old) (changed : Changed slots others v new) (asked : SlotAnswers dev old ask got new) where
    some_by : (shelves : Shelves) → ShelvesStand dev slots shelves → (o : Option Shelf) → StandsThere dev (Some old) o → AnsweredBy slots v ask got others shelves o
    some_by shelves stand None h = absurd h
    some_by shelves stand (Some shelf) h = elim (asked.plainly shelf h) [
      | inl plain ↦ inl (plain.0, with_one slots others shelves v new (shelf_step shelf ask).0 changed stand plain.1)
      | inr failed ↦ inr (
        subst (λ o. FailsThere dev o (seen_at others v)) (sym there)
            (subst (λ o. FailsThere dev (Some old) o) (sym (changed_here slots others v new changed)) failed.0),
        failed.1,
        with_one slots others shelves v new (failed_shelf shelf ask) changed stand failed.2,
      )
    ]

    -- where there is one
    pub some_asked : disk_asks dev slots v ask got others
    unfolding disk_asks
    some_asked = record {
      plainly = λ shelves stand. some_by shelves stand (shelves v) (subst (λ o. StandsThere dev o (shelves v)) there (stand v));
      anyhow = subst (λ o. AnsweredThere dev o ask got (seen_at others v)) (sym there)
          (subst (AnsweredThere dev (Some old) ask got) (sym (changed_here slots others v new changed)) asked.anyhow);
      others = λ w other. changed.rows w ∙ ap (λ b. if b then Some new else seen_at slots w) (ne-eqb w v other);
    }

  -- where none stands
  pub unplaced_asked : (slots : List (Seen D)) (v : ℕ) (ask : Ask) → None ≡ place_in slots v → disk_asks dev slots v ask (no_answer ask) slots
  unfolding place_in
  unplaced_asked slots v ask none = none_asked slots v ask (no_place slots v (sym none))

  -- by its place
  pub placed_asked : (slots inside : List (Seen D)) (v i : ℕ) (ask : Ask) (got : Got ask) (old new : Seen D) → Some i ≡ place_in slots v → inside ≡ slots → old ≡ get_or inside i old → new.number ≡ old.number → SlotAnswers dev old ask got new → disk_asks dev slots v ask got (set inside i new)
  unfolding place_in
  placed_asked slots inside v i ask got old new here same is number asked =
      let place : position (λ (s : Seen D). s.number == v) slots ≡ Some i = sym here in
      subst (λ xs. disk_asks dev slots v ask got (set xs i new)) (sym same)
      (some_asked slots (set slots i new) v ask got old new (at_place slots v i old place (is' same is)) (at_set slots v i old place (is' same is) new number) asked)
    where
      is' : inside ≡ slots → old ≡ get_or inside i old → old ≡ get_or slots i old
      is' same is = is ∙ ap (λ xs. get_or xs i old) same

  -- no request was made of the journal of a place
  pub placed_unasked : (slots inside : List (Seen D)) (v i : ℕ) (old new : Seen D) → Some i ≡ place_in slots v → inside ≡ slots → old ≡ get_or inside i old → new.number ≡ old.number → SlotUnasked dev old new → IsUnasked (disk_asks dev) v slots (set inside i new)
  placed_unasked slots inside v i old new here same is number unasked =
      inr (flush_of old.flusher, placed_asked slots inside v i Look (flush_of old.flusher) old new here same is number unasked)

  -- the batch on its way is told
  pub looked : (slots : List (Seen D)) (v : ℕ) → disk_asks dev slots v Look (flush_at slots v) slots
  looked slots v = by (seen_at slots v) refl
    where
      by : (o : Option (Seen D)) → seen_at slots v ≡ o → disk_asks dev slots v Look (flush_at slots v) slots
      by None e = subst (λ f. disk_asks dev slots v Look f slots) (sym (ap flush_in e)) (none_asked slots v Look e)
      by (Some s) e =
          subst (λ f. disk_asks dev slots v Look f slots) (sym (ap flush_in e))
          (some_asked slots slots v Look (flush_of s.flusher) s s e (unchanged slots v s e) (record {
            plainly = λ shelf stand. inl (stand.flush, stand);
            anyhow = record { later = omega arith; so = record { answer = refl; rests = record { book = refl; closed = refl; batch = refl } } };
          }))

  -- the batch on its way is kept
  pub keeps : (s : Seen D) (flush : Flush) (flusher : Flusher) → flush_of flusher ≡ flush → SlotAnswers dev s (Keep flush) tt (record s { flusher = flusher })
  keeps s flush flusher e = record {
    plainly = λ shelf stand. inl (refl, record { closed = stand.closed; book = stand.book; flush = e; arm = stand.arm; leaves = leaves_alike s shelf flush stand.leaves });
    anyhow = record { later = omega arith; so = record { kept = e; journal = refl } };
  }

  pub placed_keeps : (slots inside : List (Seen D)) (v i : ℕ) (old new : Seen D) (flush : Flush) (flusher : Flusher) → Some i ≡ place_in slots v → inside ≡ slots → old ≡ get_or inside i old → flush_of flusher ≡ flush → new ≡ record old { flusher = flusher }
      → disk_asks dev slots v (Keep flush) tt (set inside i new)
  placed_keeps slots inside v i old new flush flusher here same is e left =
      subst (λ n. disk_asks dev slots v (Keep flush) tt (set inside i n)) (sym left) (placed_asked slots inside v i (Keep flush) tt old (record old { flusher = flusher }) here same is refl (keeps old flush flusher e))

  -- how often the disk of the journal of a place failed
  pub placed_count : (slots inside : List (Seen D)) (v i : ℕ) (s : Seen D) → Some i ≡ place_in slots v → inside ≡ slots → s ≡ get_or inside i s → failures_at dev slots v ≡ failures_in dev (Some s)
  unfolding place_in
  placed_count slots inside v i s here same is = ap (failures_in dev) (at_place slots v i s (sym here) (is ∙ ap (λ xs. get_or xs i s) same))

  -- where none stands
  pub unplaced_count : (slots : List (Seen D)) (v : ℕ) → None ≡ place_in slots v → failures_at dev slots v ≡ 0
  unfolding place_in
  unplaced_count slots v none = ap (failures_in dev) (no_place slots v (sym none))

-- a job whose first request was not made
pub unasked_job : {W J A : Type 0} (step : W → ℕ → VbCall → Option VbReply → W → Type 0) (asks : J → ℕ → (ask : Ask) → Got ask → J → Type 0) (v : ℕ) (ask : Ask) (next : Got ask → Job A) (w : W) (kept left : J) → IsUnasked asks v kept left
    → BeganJob step asks (Request v ask next) w kept w left
unasked_job step asks v ask next w kept left short = inl (refl, short)

pub ruleset asked = (unplaced_asked, placed_asked, placed_unasked, looked)
