-- own calls by their places: each stands in what the seat has seen, and no two at one
use Rattle.std.proofs.Common.{◌≡◌, ℕ, zero, suc, ◌+◌, ◌<◌, ◌≤◌, ◌==◌, Bool, true, false, List, [], ◌∷◌, ◌++◌, length, get_or, Some, slice_get, if◌then◌else◌, refl, sym, ap, ◌∙◌, subst, arith}
use Rattle.std.specs.Prelude.{◌↔◌, nat_lt, Contains}
use Rattle.std.proofs.lemmas.Bool.Decides.{nat_tests}
use mathlib.Core.List.{IsPrefix}
use Rattle.vb_turn.specs.Turning.{times, places, Placed, Apart, Whole}
use Rattle.vb_turn.specs.Laws.{StandApart, AreOwn}
use Rattle.vb_turn.specs.declared.view.View.{View}

-- how often a place is named in front of others
here : (x : ℕ) (n : ℕ) (b : Bool) → (x == x) ≡ b → 0 < (if b then 1 else 0) + n
here x n true e = omega arith
here x n false e = absurd (grind (arith, nat_tests))

-- a place below the end is named once
pub below_once : (x n : ℕ) (b : Bool) → nat_lt x n ≡ b → x < n → 0 < (if b then 1 else 0)
below_once x n true e l = omega arith
below_once x n false e l = absurd (grind (arith, nat_tests))

module _ {E : Type 0} where
  pub named : (mine : List (ℕ × E)) (k : ℕ) (t : ℕ × E) → slice_get mine k ≡ Some t → 0 < times t.0 (places mine)
  named [] k t h = absurd cc
  named (x ∷ mine) zero t h = let same : x ≡ t = cc h in subst (λ (y : ℕ × E). 0 < times y.0 (places (x ∷ mine))) same (here x.0 (times x.0 (places mine)) (x.0 == x.0) refl)
  named (x ∷ mine) (suc k) t h = let r = named mine k t h in omega arith

  get_at : (mine : List (ℕ × E)) (k : ℕ) (t : ℕ × E) → k < length mine → get_or mine k t ≡ t → slice_get mine k ≡ Some t
  get_at [] k t l h = absurd (omega arith)
  get_at (x ∷ mine) zero t l h = ap Some h
  get_at (x ∷ mine) (suc k) t l h = get_at mine k t (omega arith) h

  pub at_get : (mine : List (ℕ × E)) (k : ℕ) (t : ℕ × E) → slice_get mine k ≡ Some t → (k < length mine) × (get_or mine k t ≡ t)
  at_get [] k t h = absurd cc
  at_get (x ∷ mine) zero t h = (omega arith, cc h)
  at_get (x ∷ mine) (suc k) t h = let r = at_get mine k t h in (omega arith, r.1)

  pub contained : (mine : List (ℕ × E)) (t : ℕ × E) → Contains mine t → 0 < times t.0 (places mine)
  contained mine t (k, l, h) = named mine k t (get_at mine k t l h)

  pub contains_left : (mine more : List (ℕ × E)) (t : ℕ × E) → Contains mine t → Contains (mine ++ more) t
  contains_left [] more t (k, l, h) = absurd (omega arith)
  contains_left (x ∷ mine) more t (zero, l, h) = (0, omega arith, h)
  contains_left (x ∷ mine) more t (suc k, l, h) = let r = contains_left mine more t (k, omega arith, h) in let m = r.1 in (suc r.0, omega arith, r.2)

  found_by : (x : ℕ) (y : ℕ × E) (mine : List (ℕ × E)) (b : Bool) → (x == y.0) ≡ b → (0 < times x (places mine) → (e : E) × Contains mine (x, e))
      → 0 < (if b then 1 else 0) + times x (places mine) → (e : E) × Contains (y ∷ mine) (x, e)
  found_by x y mine true e more l = let same : y.0 ≡ x = grind (arith, nat_tests) in (y.1, (0, omega arith, λ i. (same i, y.1)))
  found_by x y mine false e more l = let r = more (omega arith) in let m = r.1.1 in (r.0, (suc r.1.0, omega arith, r.1.2))

  -- a place that is named is that of a call
  pub found : (x : ℕ) (mine : List (ℕ × E)) → 0 < times x (places mine) → (e : E) × Contains mine (x, e)
  found x [] l = absurd (omega arith)
  found x (y ∷ mine) l = found_by x y mine (x == y.0) refl (found x mine) l

  pub stands_at : (history : List E) (mine : List (ℕ × E)) (t : ℕ × E) → Placed history mine → Contains mine t → slice_get history t.0 ≡ Some t.1
  stands_at history mine t p (k, l, h) = subst (λ (u : ℕ × E). slice_get history u.0 ≡ Some u.1) h (p k t l)

  tail_apart : (t : ℕ × E) (mine : List (ℕ × E)) → Apart (t ∷ mine) → Apart mine
  tail_apart t mine a = λ x. let h = a x in omega arith

  never_again : (t : ℕ × E) (mine : List (ℕ × E)) (b : Bool) → (t.0 == t.0) ≡ b → (if b then 1 else 0) + times t.0 (places mine) ≤ 1 → 0 < times t.0 (places mine) → ⊥
  never_again t mine true e a l = omega arith
  never_again t mine false e a l = grind (arith, nat_tests)

  pub one_place : (mine : List (ℕ × E)) → Apart mine → (i j : ℕ) (t u : ℕ × E) → slice_get mine i ≡ Some t → slice_get mine j ≡ Some u → t.0 ≡ u.0 → i ≡ j
  one_place [] a i j t u p q e = absurd cc
  one_place (x ∷ mine) a zero zero t u p q e = refl
  one_place (x ∷ mine) a zero (suc j) t u p q e = let same : x ≡ t = cc p in let at : u.0 ≡ x.0 = sym e ∙ ap (λ y. y.0) (sym same) in
      absurd (never_again x mine (x.0 == x.0) refl (a x.0) (subst (λ (n : ℕ). 0 < times n (places mine)) at (named mine j u q)))
  one_place (x ∷ mine) a (suc i) zero t u p q e = let same : x ≡ u = cc q in let at : t.0 ≡ x.0 = e ∙ ap (λ y. y.0) (sym same) in
      absurd (never_again x mine (x.0 == x.0) refl (a x.0) (subst (λ (n : ℕ). 0 < times n (places mine)) at (named mine i t p)))
  one_place (x ∷ mine) a (suc i) (suc j) t u p q e = ap suc (one_place mine (tail_apart x mine a) i j t u p q e)

  pub get_below : (history : List E) (k : ℕ) (e : E) → slice_get history k ≡ Some e → k < length history
  get_below [] k e h = absurd cc
  get_below (x ∷ history) zero e h = omega arith
  get_below (x ∷ history) (suc k) e h = let r = get_below history k e h in omega arith

  -- of a whole history each place is that of an own call
  pub own_at : (history : List E) (mine : List (ℕ × E)) (k : ℕ) → Whole mine history → k < length history → (e : E) × Contains mine (k, e)
  own_at history mine k w l = let n = w.1 k in let o = below_once k (length history) (nat_lt k (length history)) refl l in found k mine (omega arith)

  pub own_by : (history : List E) (mine : List (ℕ × E)) → Placed history mine → Whole mine history → (k : ℕ) (e : E) → (slice_get history k ≡ Some e) ↔ Contains mine (k, e)
  own_by history mine p w k e = (
    λ h. let r = own_at history mine k w (get_below history k e h) in let same : r.0 ≡ e = cc (stands_at history mine (k, r.0) p r.1, h) in
        subst (λ (x : E). Contains mine (k, x)) same r.1,
    λ c. stands_at history mine (k, e) p c,
  )

  pub full : (xs ys : List E) → IsPrefix xs ys → length ys ≤ length xs → xs ≡ ys
  full [] [] p l = refl
  full [] (y ∷ ys) p l = absurd (omega arith)
  full (x ∷ xs) [] p l = absurd (cc (p.1))
  full (x ∷ xs) (y ∷ ys) p l = let heads : x ≡ y = cc (p.1) in let rest = full xs ys (p.0, cc (p.1)) (omega arith) in cc (heads, rest)

  reaches : (seen log : List E) (mine : List (ℕ × E)) (n : ℕ) → length log ≡ n → Placed seen mine → Whole mine log → n ≤ length seen
  reaches seen log mine zero e p w = omega arith
  reaches seen log mine (suc k) e p w = let r = own_at log mine k w (omega arith) in let l = get_below seen k r.0 (stands_at seen mine (k, r.0) p r.1) in omega arith

  -- who has made each call of a history has seen all of it
  pub seen_whole : (seen log : List E) (mine : List (ℕ × E)) → IsPrefix seen log → Placed seen mine → Whole mine log → seen ≡ log
  seen_whole seen log mine front p w = full seen log front (reaches seen log mine (length log) refl p w)

  pub stand_apart : {M : Type 0} (v : View M E) → Placed v.seen v.mine → Apart v.mine → StandApart v
  stand_apart v p a = (λ t c. stands_at v.seen v.mine t p c, one_place v.mine a)

  pub are_own : {M : Type 0} (v : View M E) → Placed v.seen v.mine → Whole v.mine v.seen → AreOwn v
  are_own v p w = (own_by v.seen v.mine p w, w.0)
