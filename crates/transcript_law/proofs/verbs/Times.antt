-- which prepares wait, as one more does or one is resolved, and when each was made
use Rattle.std.specs.Prelude.{◌≡◌, ◌⊎◌, ◌∷◌, ◌++◌, ◌<◌, ◌≤◌, ◌+◌, ◌-◌, ◌*◌, ◌^◌, if◌then◌else◌}
use Rattle.std.proofs.Math.Nat.{min-eq_left, min_comm}
use Rattle.client_session.specs.Serving.{deadline_of}
use Rattle.std.specs.List.{filter}
use Rattle.transcript_law.proofs.Words.{ℕ, Bool, true, false, List, [], drop, fold, refl, ap, sym, ◌∙◌, subst, arith, cases_lt, inl, inr, ⊎_elim, Some, None, Pend, Picture}
use Rattle.durability.specs.{Laws.{Waits}, Outstanding.{above, at_seq, below, placed, upto, without}, declared.waiting.Waiting.{Waiting}}
use Rattle.std.specs.FinMap as finite
use Rattle.transcript_law.proofs.invariant.Agreement.{TimesAre}
use Rattle.transcript_law.specs.{LawfulAnswers.{HavePassed}, Lawfulness.{IsUp}}
use Rattle.vb_calls.specs.Settling.{left_prepare, left_prepares}

-- ---- which wait

in_filter : (f : Waiting → Bool) (ws : List Waiting) (w : Waiting) → Waits w (filter f ws) → Waits w ws
in_filter f [] w i = i
in_filter f (x ∷ ws) w i = by (f x) i (in_filter f ws w)
  where
    by : (b : Bool) → Waits w (if b then x ∷ filter f ws else filter f ws) → (Waits w (filter f ws) → Waits w ws) → Waits w (x ∷ ws)
    by true j rest = ⊎_elim (λ s. inl s) (λ k. inr (rest k)) j
    by false j rest = inr (rest j)

in_parts : (xs ys : List Waiting) (w : Waiting) → Waits w (xs ++ ys) → Waits w xs ⊎ Waits w ys
in_parts [] ys w i = inr i
in_parts (x ∷ xs) ys w i = ⊎_elim (λ s. inl (inl s)) (λ j. ⊎_elim (λ k. inl (inr k)) (λ k. inr k) (in_parts xs ys w j)) i

in_drop : (ws : List Waiting) (w : Waiting) → Waits w (drop 1 ws) → Waits w ws
in_drop [] w i = i
in_drop (x ∷ ws) w i = inr i

-- one more
placed_was : (p : Waiting) (ws : List Waiting) (w : Waiting) → Waits w (placed p ws) → (w ≡ p) ⊎ Waits w ws
placed_was p ws w i = ⊎_elim (λ j. inr (in_filter _ ws w j)) (λ j. ⊎_elim (λ s. inl s) (λ k. inr (in_filter _ ws w k)) j) (in_parts (upto p.seq ws) (p ∷ above p.seq ws) w i)

-- one fewer
pub without_was : (q : ℕ) (ws : List Waiting) (w : Waiting) → Waits w (without q ws) → Waits w ws
without_was q ws w i = ⊎_elim (λ j. ⊎_elim (λ k. in_filter _ ws w k) (λ k. in_filter _ ws w (in_drop (at_seq q ws) w k)) (in_parts (below q ws) (drop 1 (at_seq q ws)) w j)) (λ j. in_filter _ ws w j) (in_parts (below q ws ++ drop 1 (at_seq q ws)) (above q ws) w i)

-- those that are to be committed again have no deadline
left_fold : (es : List (List ℕ × Pend)) (ws : List Waiting) (w : Waiting) → Waits w (fold (λ waiting e. placed (left_prepare e) waiting) ws es) → Waits w ws ⊎ (w.deadline ≡ None)
left_fold [] ws w i = inl i
left_fold (e ∷ es) ws w i = ⊎_elim (λ j. ⊎_elim (λ s. inr (ap (λ (x : Waiting). x.deadline) s)) (λ k. inl k) (placed_was (left_prepare e) ws w j)) (λ none. inr none) (left_fold es (placed (left_prepare e) ws) w i)

pub left_untimed : (image : Picture) (w : Waiting) → Waits w (left_prepares image) → w.deadline ≡ None
left_untimed image w i = ⊎_elim (λ j. absurd j) (λ none. none) (left_fold (finite.entries image.pending) [] w i)

-- ---- when they were made

pub untimed : (times : List (ℕ × ℕ)) (ws : List Waiting) → ((w : Waiting) → Waits w ws → w.deadline ≡ None) → TimesAre times ws
untimed times ws none = record { each = λ w i deadline e. let z : None ≡ Some deadline = sym (none w i) ∙ e in cc }

-- no more wait than before
pub fewer_times : {times : List (ℕ × ℕ)} {ws less : List Waiting} (seq clock : ℕ) → ((w : Waiting) → Waits w less → Waits w ws) → TimesAre times ws → TimesAre ((seq, clock) ∷ times) less
fewer_times seq clock was t = record { each = λ w i deadline e. let k = t.each w (was w i) deadline e in (k.0, inr k.1, k.2) }

-- one more does, which was made then
pub placed_times : {times : List (ℕ × ℕ)} (p : Waiting) (ws : List Waiting) (clock end : ℕ) → p.deadline ≡ Some end → IsUp clock end → TimesAre times ws → TimesAre ((p.seq, clock) ∷ times) (placed p ws)
placed_times p ws clock end is up t = record {
  each = λ w i deadline e. ⊎_elim
      (λ same. (clock, inl (ap (λ (x : Waiting). x.seq) same, refl), (let z : Some end ≡ Some deadline = sym is ∙ sym (ap (λ (x : Waiting). x.deadline) same) ∙ e in let level : end ≡ deadline = cc in subst (IsUp clock) level up)))
      (λ j. let k = t.each w j deadline e in (k.0, inr k.1, k.2)) (placed_was p ws w i);
}

-- a durable write has a millisecond at least
pub up_at_end : (clock timeout : ℕ) → 0 < timeout → IsUp clock (deadline_of clock timeout)
up_at_end clock timeout some = ⊎_elim
    (λ over. inr (min_comm (clock + timeout * 1000000) (2 ^ 64 - 1) ∙ min-eq_left (omega (arith, over))))
    (λ within. inl (let is = min-eq_left within in omega (arith, some, is)))
    (cases_lt (2 ^ 64 - 1) (clock + timeout * 1000000))

-- by its deadline the time that is asked for is over
pub passed_at : (since timeout now : ℕ) → deadline_of since timeout ≤ now → HavePassed timeout since now
passed_at since timeout now low = ⊎_elim
    (λ over. inr (let is : deadline_of since timeout ≡ 2 ^ 64 - 1 = min_comm (since + timeout * 1000000) (2 ^ 64 - 1) ∙ min-eq_left (omega (arith, over)) in omega (arith, low, is)))
    (λ within. inl (let is : deadline_of since timeout ≡ since + timeout * 1000000 = min-eq_left within in omega (arith, low, is)))
    (cases_lt (2 ^ 64 - 1) (since + timeout * 1000000))

-- what is up at a deadline is up behind it
pub up_later : (before deadline now : ℕ) → deadline ≤ now → now < 2 ^ 64 → IsUp before deadline → IsUp before now
up_later before deadline now low small up = ⊎_elim (λ far. inl (omega (arith, far, low))) (λ last. inr (omega (arith, last, low, small))) up
