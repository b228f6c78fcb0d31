-- the rows of the machine of one number
use Rattle.std.proofs.Common.{◌≡◌, ℕ, ◌+◌, ◌≤◌, ◌==◌, Bool, true, false, [], ◌∷◌, ◌++◌, length, if◌then◌else◌, refl, sym, ap, ◌∙◌, subst, arith, Some}
use Rattle.std.specs.Prelude.{nat_lt}
use Rattle.std.proofs.lemmas.Bool.Decides.{nat_tests}
use Rattle.vb_turn.specs.declared.view.View.{View}
use Rattle.vb_turn.specs.History.{Legal, top}
use Rattle.vb_turn.specs.Turning.{all_parts, times, once_below}
use Rattle.vb_turn.specs.Seats.{called, Called, Published, ClosesWith}
use Rattle.vb_turn.specs.Rows.{put, shown, IsAt, has_put}
use Rattle.vb_turn.proofs.Fronts.{placed_one, placed_both}
use Rattle.vb_turn.proofs.Totals.{once_once}
use Rattle.vb_turn.proofs.Owning.{full}
use Rattle.vb_turn.proofs.Learning.{prefix_long, long_is, mine_is, closings_name_the_history, numbers_hold}

-- 0, the number that the opening object has, is the state at the begin
begins : (o s : ℕ) → Some 0 ≡ Some o → o ≡ s → 0 ≡ s
begins o s is st = let e : 0 ≡ o = cc is in e ∙ st

apart_by : (x p q : ℕ) (a b : Bool) → (p ≡ q → ⊥) → (x == p) ≡ a → (x == q) ≡ b → (if a then 1 else 0) + ((if b then 1 else 0) + 0) ≤ 1
apart_by x p q true true ne e f = let h : p ≡ q = grind (arith, nat_tests) in absurd (ne h)
apart_by x p q true false ne e f = omega arith
apart_by x p q false true ne e f = omega arith
apart_by x p q false false ne e f = omega arith

apart : (p q : ℕ) → (p ≡ q → ⊥) → (x : ℕ) → times x (p ∷ q ∷ []) ≤ 1
apart p q ne x = apart_by x p q (x == p) (x == q) ne refl refl

one_by : (x : ℕ) (a b : Bool) → (x == 0) ≡ a → nat_lt x 1 ≡ b → ◌≡◌ {A = ℕ} ((if a then 1 else 0) + 0) (if b then 1 else 0)
one_by x true true e f = refl
one_by x true false e f = absurd (grind (arith, nat_tests))
one_by x false true e f = absurd (grind (arith, nat_tests))
one_by x false false e f = refl

one : (x : ℕ) → times x (0 ∷ []) ≡ once_below x 1
one x = one_by x (x == 0) (nat_lt x 1) refl refl

two_by : (x : ℕ) (a b c : Bool) → (x == 0) ≡ a → (x == 1) ≡ b → nat_lt x 2 ≡ c → ◌≡◌ {A = ℕ} ((if a then 1 else 0) + ((if b then 1 else 0) + 0)) (if c then 1 else 0)
two_by x true true c e f g = absurd (grind (arith, nat_tests))
two_by x true false true e f g = refl
two_by x true false false e f g = absurd (grind (arith, nat_tests))
two_by x false true true e f g = refl
two_by x false true false e f g = absurd (grind (arith, nat_tests))
two_by x false false true e f g = absurd (grind (arith, nat_tests))
two_by x false false false e f g = refl

two : (x : ℕ) → times x (0 ∷ 1 ∷ []) ≡ once_below x 2
two x = two_by x (x == 0) (x == 1) (nat_lt x 2) refl refl refl

pub right_call : Called IsAt put shown (has_put all_parts 5) (2, 5) (called (has_put all_parts 5) ((5, 0) ∷ []) (2, 5))
right_call = record {
  base = (5, 0) ∷ [];
  front = ([], refl);
  new = refl;
  legal = λ o is s st. subst (λ (z : ℕ). Legal put z ((5, 0) ∷ (2, 5) ∷ []) × (5 ≤ top put shown z ((5, 0) ∷ (2, 5) ∷ []))) (begins o s is st) ((refl, (refl, tt)), omega arith);
  orderly = (
    placed_both ((5, 0) ∷ (2, 5) ∷ []) ((0, (5, 0)) ∷ []) ((1, (2, 5)) ∷ []) (placed_one ((5, 0) ∷ (2, 5) ∷ []) 0 (5, 0) refl) (placed_one ((5, 0) ∷ (2, 5) ∷ []) 1 (2, 5) refl),
    apart 0 1 (λ e. omega arith),
    λ _. (refl, two),
  );
}

-- another seat puts 0 before it
pub right_other : Called IsAt put shown (has_put 1 5) (2, 0) (called (has_put 1 5) ((5, 0) ∷ (0, 5) ∷ []) (2, 0))
right_other = record {
  base = (5, 0) ∷ (0, 5) ∷ [];
  front = ((0, 5) ∷ [], refl);
  new = refl;
  legal = λ o is s st. subst (λ (z : ℕ). Legal put z ((5, 0) ∷ (0, 5) ∷ (2, 0) ∷ []) × (5 ≤ top put shown z ((5, 0) ∷ (0, 5) ∷ (2, 0) ∷ []))) (begins o s is st) ((refl, (refl, (refl, tt))), omega arith);
  orderly = (
    placed_both ((5, 0) ∷ (0, 5) ∷ (2, 0) ∷ []) ((0, (5, 0)) ∷ []) ((2, (2, 0)) ∷ []) (placed_one ((5, 0) ∷ (0, 5) ∷ (2, 0) ∷ []) 0 (5, 0) refl) (placed_one ((5, 0) ∷ (0, 5) ∷ (2, 0) ∷ []) 2 (2, 0) refl),
    apart 0 2 (λ e. omega arith),
    λ all. absurd (omega arith),
  );
}

-- a seat with all parts made both calls, so its second one is behind its first
second : (known : ℕ) (e : ℕ × ℕ) (w : View ℕ (ℕ × ℕ)) → Called IsAt put shown (has_put all_parts known) e w
    → Legal put 0 ((5, 0) ∷ e ∷ []) × (known ≤ top put shown 0 ((5, 0) ∷ e ∷ []))
second known e w c =
    let whole = c.orderly.2 (ap (λ (x : View ℕ (ℕ × ℕ)). x.parts) c.new) in let many = whole.0 in
    let long = long_is IsAt put shown (has_put all_parts known) w e c in let made : length w.mine ≡ 2 = ap length (mine_is IsAt put shown (has_put all_parts known) w e c) in
    let base : (5, 0) ∷ [] ≡ c.base = full ((5, 0) ∷ []) c.base c.front (omega arith) in
    subst (λ b. Legal put 0 (b ++ e ∷ []) × (known ≤ top put shown 0 (b ++ e ∷ []))) (sym base) (c.legal 0 refl 0 refl)

pub wrong_opening : (known : ℕ) (w : View ℕ (ℕ × ℕ)) → Called IsAt put shown (has_put all_parts known) (2, 0) w → ⊥
wrong_opening known w c = let h : ◌≡◌ {A = ℕ} 5 0 = (second known (2, 0) w c).0.1.0 in omega arith

pub wrong_number : (w : View ℕ (ℕ × ℕ)) → Called IsAt put shown (has_put all_parts 6) (2, 5) w → ⊥
wrong_number w c = let h : 6 ≤ 5 = (second 6 (2, 5) w c).1 in omega arith

pub wrong_nothing : (parts known : ℕ) (e : ℕ × ℕ) → Called IsAt put shown (has_put parts known) e (has_put parts known) → ⊥
wrong_nothing parts known e c = let long = long_is IsAt put shown (has_put parts known) (has_put parts known) e c in let front = prefix_long ((5, 0) ∷ []) c.base c.front in omega arith

pub right_number : Published IsAt put shown (has_put all_parts 0) 5 (has_put all_parts 5)
right_number = (
  refl,
  omega arith,
  (λ o is s st. subst (λ (z : ℕ). top put shown z ((5, 0) ∷ []) ≤ 5) (begins o s is st) (omega arith)),
  (
    (5, 0) ∷ [],
    ([], refl),
    (placed_one ((5, 0) ∷ []) 0 (5, 0) refl, (λ x. let h = one x in let l = once_once x 1 in omega arith), λ _. (refl, one)),
    λ o is s st. subst (λ (z : ℕ). Legal put z ((5, 0) ∷ []) × (top put shown z ((5, 0) ∷ []) ≡ 5)) (begins o s is st) ((refl, tt), refl),
  ),
)

pub wrong_less : (parts known : ℕ) (w : View ℕ (ℕ × ℕ)) → Published IsAt put shown (has_put parts known) 4 w → ⊥
wrong_less parts known w t = let h : 5 ≤ 4 = t.2 0 refl 0 refl in omega arith

pub wrong_back : (parts : ℕ) (w : View ℕ (ℕ × ℕ)) → Published IsAt put shown (has_put parts 9) 5 w → ⊥
wrong_back parts w t = let h = t.1 in omega arith

pub wrong_made_up : (known : ℕ) (w : View ℕ (ℕ × ℕ)) → Published IsAt put shown (has_put all_parts known) 6 w → ⊥
wrong_made_up known w t = let h : ◌≡◌ {A = ℕ} 5 6 = (numbers_hold IsAt put shown).alone (has_put all_parts known) w 6 t refl 0 refl 0 refl in omega arith

pub right_close : ClosesWith IsAt put (has_put all_parts 0) 5
right_close = (
  refl,
  (
    (5, 0) ∷ [],
    ([], refl),
    placed_one ((5, 0) ∷ []) 0 (5, 0) refl,
    (refl, one),
    λ o is s st. ((sym (begins o s is st), tt), refl),
  ),
)

pub wrong_dropped : ClosesWith IsAt put (has_put all_parts 0) 0 → ⊥
wrong_dropped c = let h : ◌≡◌ {A = ℕ} 0 5 = (closings_name_the_history IsAt put).ends (has_put all_parts 0) 0 c 0 refl 0 refl in omega arith

pub wrong_fewer : (object : ℕ) → ClosesWith IsAt put (has_put 4294967295 0) object → ⊥
wrong_fewer object c = let h = c.0 in omega arith
