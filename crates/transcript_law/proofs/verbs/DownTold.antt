-- lines of a line `down`, and what is read with them
use Rattle.std.specs.Prelude.{◌≡◌, ◌∷◌, ◌++◌, ◌||◌, if◌then◌else◌}
use Rattle.transcript_law.proofs.Words.{ℕ, Bool, true, false, List, [], list_any, list_any-append, refl, ap, sym, ◌∙◌, Option, Some, None, Chronicle, EndReason, Event, Role}
use Rattle.transcript_law.proofs.{disks.ArmedLines.{AreEnds}, lines.Rises.{no_heir}}
use Rattle.transcript_law.specs.{Chronicles.{after_calls, after_moved, after_noted, after_rollback, as_noted, calls_of_append, heir_in, is_rise, is_rollback}, LineAnswers.{Back}, TakeoverNotes.{is_role_of}}
use Rattle.vb_events.specs.declared.event.Answer.{Answer}
use Rattle.vb_events.specs.declared.event.Answer.TheVariants as answer
use Rattle.vb_events.specs.declared.event.Event.TheVariants as event
use Rattle.vb_types.specs.declared.journal.Record.{Record}

-- lines of a line `down` and of its link's end, of which one is such, or none
pub ended_tells : (test : Event → Bool) (events : List Event) (l : ℕ) (why : EndReason) (b : Bool) → test (event.Ended l why) ≡ false → list_any test events ≡ b → list_any test (events ++ event.Ended l why ∷ []) ≡ b
ended_tells test events l why b none e = list_any-append test events (event.Ended l why ∷ []) ∙ (λ i. e i || (none i || false)) ∙ (elim b as (λ x. (x || false) ≡ x) [ true ↦ refl | false ↦ refl ])

-- lines of what ends tell of no rollback, and of no vBucket that is active
pub ends_none : (lines : List Event) → AreEnds lines → list_any is_rollback lines ≡ false
ends_none [] a = refl
ends_none (event.Ended l reason ∷ lines) a = ends_none lines a
ends_none (event.Closed n c ∷ lines) a = ends_none lines a
ends_none (other ∷ lines) a = absurd a

pub ends_level : (lines : List Event) → AreEnds lines → list_any is_rise lines ≡ false
ends_level [] a = refl
ends_level (event.Ended l reason ∷ lines) a = ends_level lines a
ends_level (event.Closed n c ∷ lines) a = ends_level lines a
ends_level (other ∷ lines) a = absurd a

pub ends_unturned : (n v : ℕ) (lines : List Event) → AreEnds lines → list_any (is_role_of n v) lines ≡ false
ends_unturned n v [] a = refl
ends_unturned n v (event.Ended l reason ∷ lines) a = ends_unturned n v lines a
ends_unturned n v (event.Closed m c ∷ lines) a = ends_unturned n v lines a
ends_unturned n v (other ∷ lines) a = absurd a

pub behind_none : (test : Event → Bool) (events more : List Event) → list_any test events ≡ false → list_any test more ≡ false → list_any test (events ++ more) ≡ false
behind_none test events more e f = list_any-append test events more ∙ ap (λ x. x || list_any test more) e ∙ f

-- a vBucket that takes its branch over does so by these lines and by more behind them
pub heir_more : (lines more : List Event) (x : ℕ × ℕ) → heir_in lines ≡ Some x → heir_in (lines ++ more) ≡ Some x
heir_more [] more x e = cc
heir_more (event.Role n v Role.Active ∷ lines) more x e = e
heir_more (line ∷ lines) more x e = heir_more lines more x e

pub heir_rises : (lines : List Event) (x : ℕ × ℕ) → heir_in lines ≡ Some x → list_any is_rise lines ≡ true
heir_rises lines x e = by (list_any is_rise lines) refl
  where
    by : (b : Bool) → list_any is_rise lines ≡ b → list_any is_rise lines ≡ true
    by true q = q
    by false q = let z : None ≡ Some x = sym (no_heir lines q) ∙ e in cc

-- what is read beside lines that tell of no rollback, and of one
pub told_of_none : (x : Chronicle) (rolls : Back) (lines : List Event) (moved : ℕ) → list_any is_rollback lines ≡ false → after_rollback x rolls lines (answer.Number moved) ≡ x
told_of_none x None lines moved e = refl
told_of_none x (Some (n, (v, what))) lines moved e = ap (λ b. if b then after_calls calls_of_append n x else x) e

pub moved_level : (x : Chronicle) (rolls : Back) (lines : List Event) (said : Answer) → list_any is_rise lines ≡ false → after_moved x (heir_in lines) rolls lines said ≡ after_rollback x rolls lines said
moved_level x rolls lines said level = ap (λ heir. after_moved x heir rolls lines said) (no_heir lines level)

pub moved_none : (x : Chronicle) (rolls : Back) (lines : List Event) (moved : ℕ) → list_any is_rise lines ≡ false → list_any is_rollback lines ≡ false → after_moved x (heir_in lines) rolls lines (answer.Number moved) ≡ x
moved_none x rolls lines moved level e = moved_level x rolls lines (answer.Number moved) level ∙ told_of_none x rolls lines moved e

pub moved_one : (x : Chronicle) (rolls : Back) (n v : ℕ) (what : Record) (lines : List Event) (moved : ℕ) → rolls ≡ Some (n, (v, what)) → list_any is_rise lines ≡ false → list_any is_rollback lines ≡ true
    → after_moved x (heir_in lines) rolls lines (answer.Number moved) ≡ after_calls calls_of_append n x
moved_one x rolls n v what lines moved e level f = moved_level x rolls lines (answer.Number moved) level ∙ ap (λ o. after_rollback x o lines (answer.Number moved)) e ∙ ap (λ b. if b then after_calls calls_of_append n x else x) f

-- and beside those of a vBucket that takes its branch over
pub moved_heir : (x : Chronicle) (rolls : Back) (n v : ℕ) (lines : List Event) (said : Answer) → heir_in lines ≡ Some (n, v) → after_moved x (heir_in lines) rolls lines said ≡ after_noted x n v Role.Active (as_noted said)
moved_heir x rolls n v lines said e = ap (λ heir. after_moved x heir rolls lines said) e
