-- numbers that do not fall, and the place behind those that are at most a bound
use Rattle.std.proofs.Common.{◌≡◌, ℕ, ◌+◌, ◌-◌, ◌<◌, ◌≤◌, true, false, List, ◌∷◌, length, get_or, leb, ap, sym, ◌∙◌, subst, arith, ⊎_elim}
use Rattle.std.specs.Prelude.{Some, None, nat_le}
use Rattle.std.specs.List.{Contains, insert, remove}
use Rattle.std.specs.List.Sorted.{IsNonDecreasing, IsPartitionPoint, IsPermutation}
use Rattle.std.proofs.lemmas.Bool.{leb-true, cases_lt}
use Rattle.std.proofs.lemmas.Bool.Decides.{nat_tests}
use Rattle.std.proofs.lemmas.List.{get_or_default}
use Rattle.std.proofs.lemmas.List.Edits.{get_or-remove_above, get_or-remove_below, length-remove}
use Rattle.std.proofs.lemmas.List.Sorted.{IsNonDecreasingBy-insert, IsPermutation-remove}
use Rattle.hash_table.specs.Seqnos.{IsFirstAbove, IsLastUpTo}

no_le : (a b : ℕ) → nat_le a b ≡ false → b < a
no_le a b e = grind (arith, nat_tests)

-- the place behind those that are at most a bound
abbrev pub Behind : List ℕ → ℕ → ℕ → Type 0
Behind xs seq at = IsPartitionPoint (λ n. n ≤ seq) (λ n. seq < n) xs at

-- as the test finds it
pub behind : (xs : List ℕ) (seq at : ℕ) → IsPartitionPoint (λ n. leb n seq ≡ true) (λ n. leb n seq ≡ false) xs at → Behind xs seq at
behind xs seq at point = (λ k d low l. leb-true _ _ (point.0 k d low l), λ k d low l. no_le _ _ (point.1 k d low l))

module _ (xs : List ℕ) (seq at : ℕ) (point : Behind xs seq at) where
  low_part : (q : ℕ) (c : Contains xs q) → q ≤ seq → c.0 < at
  low_part q c l = ⊎_elim (λ k. k) (λ k. let above : seq < q = subst (λ n. seq < n) c.2 (point.1 c.0 q k c.1) in absurd (omega arith)) (cases_lt c.0 at)

  high_part : (q : ℕ) (c : Contains xs q) → seq < q → at ≤ c.0
  high_part q c l = ⊎_elim (λ k. let up : q ≤ seq = subst (λ n. n ≤ seq) c.2 (point.0 c.0 q (omega arith) k) in absurd (omega arith)) (λ k. k) (cases_lt c.0 at)

  pub none_up_to : at ≡ 0 → IsLastUpTo (Contains xs) seq None
  none_up_to z q c = subst (λ n. seq < n) c.2 (point.1 c.0 q (omega arith) c.1)

  pub none_above : at ≡ length xs → IsFirstAbove (Contains xs) seq None
  none_above z q c = subst (λ n. n ≤ seq) c.2 (point.0 c.0 q (omega arith) (omega (arith, c.1)))

  far : (q d : ℕ) (c : Contains xs q) → get_or xs c.0 d ≡ q
  far q d c = get_or_default xs c.0 d q c.1 ∙ c.2

  -- the one in front of the place is the last that is at most the bound
  pub is_last : IsNonDecreasing xs → 0 < at → at ≤ length xs → (r : ℕ) → r ≡ get_or xs (at - 1) r → IsLastUpTo (Contains xs) seq (Some r)
  is_last up some within r is = (
    (at - 1, omega arith, sym is),
    subst (λ n. n ≤ seq) (sym is) (point.0 (at - 1) r (omega arith) (omega arith)),
    λ q c l.
        let k = low_part q c l in
        let le : get_or xs c.0 r ≤ get_or xs (at - 1) r = up c.0 (at - 1) r (omega arith) (omega arith) in
        omega (arith, le, far q r c, is),
  )

  -- the one at the place is the first above the bound
  pub is_first : IsNonDecreasing xs → at < length xs → (r : ℕ) → r ≡ get_or xs at r → IsFirstAbove (Contains xs) seq (Some r)
  is_first up within r is = (
    (at, within, sym is),
    subst (λ n. seq < n) (sym is) (point.1 at r (omega arith) within),
    λ q c l.
        let k = high_part q c l in
        let le : get_or xs at r ≤ get_or xs c.0 r = up at c.0 r k c.1 in
        omega (arith, le, far q r c, is),
  )

  -- a number that is there stands in front of the place for it
  there : IsNonDecreasing xs → at ≤ length xs → Contains xs seq → (0 < at) × (seq ≡ get_or xs (at - 1) seq)
  there up within c =
      let k = low_part seq c (omega arith) in
      let some : 0 < at = omega arith in
      let le : get_or xs c.0 seq ≤ get_or xs (at - 1) seq = up c.0 (at - 1) seq (omega arith) (omega arith) in
      let low : get_or xs (at - 1) seq ≤ seq = point.0 (at - 1) seq (omega arith) (omega arith) in
      (some, omega (arith, le, low, c.2))

  -- put in at the place, a number keeps the order
  pub put_in : IsNonDecreasing xs → at ≤ length xs → IsNonDecreasing (insert xs at seq)
  put_in up within = IsNonDecreasingBy-insert (λ n. n) xs at seq up within (λ k d l. point.0 k d (omega arith) l) (λ k d low l. let above : seq < get_or xs k d = point.1 k d low l in omega arith)

-- taken out anywhere, a number keeps it
taken_out : (xs : List ℕ) (i : ℕ) → i < length xs → IsNonDecreasing xs → IsNonDecreasing (remove xs i)
taken_out xs i h up a b d le l =
    let len = length-remove xs i h in
    ⊎_elim
    (λ ka. ⊎_elim
    (λ kb. omega (arith, get_or-remove_below xs i d a ka h, get_or-remove_below xs i d b kb h, up a b d le (omega arith)))
    (λ kb. omega (arith, get_or-remove_below xs i d a ka h, get_or-remove_above xs i d b kb h, up a (b + 1) d (omega arith) (omega arith)))
    (cases_lt b i))
    (λ ka. omega (arith, get_or-remove_above xs i d a ka h, get_or-remove_above xs i d b (omega arith) h, up (a + 1) (b + 1) d (omega arith) (omega arith)))
    (cases_lt a i)

-- what a removal in front of the place leaves, where zs is the list as callers see it
pub one_out : (xs zs ys : List ℕ) (seq at : ℕ) → xs ≡ zs → Behind zs seq at → at ≤ length zs → Contains zs seq → IsNonDecreasing xs → (at - 1 < length xs → ys ≡ remove xs (at - 1)) → IsNonDecreasing ys × IsPermutation zs (seq ∷ ys)
one_out xs zs ys seq at e point within c up left =
    let found = there zs seq at point (subst IsNonDecreasing e up) within c in
    let some : 0 < at = found.0 in
    let inside : at - 1 < length xs = omega (arith, ap length e) in
    let is : ys ≡ remove xs (at - 1) = left inside in (
      subst IsNonDecreasing (sym is) (taken_out xs (at - 1) inside up),
      subst (λ ws. IsPermutation ws (seq ∷ ys)) e (subst (λ ws. IsPermutation xs (seq ∷ ws)) (sym is) (IsPermutation-remove xs (at - 1) seq inside (found.1 ∙ ap (λ ws. get_or ws (at - 1) seq) (sym e)))),
    )
