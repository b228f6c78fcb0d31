-- the least of a number and all places
use Rattle.std.proofs.Common.{◌≡◌, ◌≢◌, ◌⊎◌, ℕ, ◌≤◌, true, List, [], ◌∷◌, min, refl, ap, sym, ◌∙◌, subst, inl, inr, ⊎_elim, arith}
use Rattle.std.specs.Prelude.{Option, Some, None, is_some}
use Rattle.std.specs.FinMap as map
use Rattle.std.specs.FinMap.{contains_key-keys, get-empty}
use Rattle.std.specs.List.{fold, list_any}
use Rattle.std.specs.Ordering.{eq_by_cmp, nat_cmp}
use Rattle.std.proofs.lemmas.Bool.{cases_lt, or_cases}
use Rattle.cursor_set.specs.Cursors.{IsLeast, Places, least_with, min_with, place_of}
use Rattle.cursor_set.specs.Laws.{LeastOfAll}
use Rattle.cursor_set.proofs.Finds.{same}

with_le : (n : ℕ) (o : Option ℕ) → min_with n o ≤ n
with_le n None = omega arith
with_le n (Some p) = omega arith

with_place : (n p : ℕ) (o : Option ℕ) → o ≡ Some p → min_with n o ≤ p
with_place n p o e = subst (λ x. min_with n x ≤ p) (sym e) (let m : min n p ≤ p = omega arith in m)

one_of : (a b : ℕ) → (min a b ≡ a) ⊎ (min a b ≡ b)
one_of a b = ⊎_elim (λ l. let e : min a b ≡ a = omega arith in inl e) (λ l. let e : min a b ≡ b = omega arith in inr e) (cases_lt a b)

with_either : (n : ℕ) (o : Option ℕ) → (min_with n o ≡ n) ⊎ (o ≡ Some (min_with n o))
with_either n None = inl refl
with_either n (Some p) = ⊎_elim (λ e. inl e) (λ e. inr (ap Some (sym e))) (one_of n p)

module _ (f : ℕ → Option ℕ) where
  pub least_le : (n : ℕ) (ids : List ℕ) → fold (λ m id. min_with m (f id)) n ids ≤ n
  least_le n [] = omega arith
  least_le n (id ∷ ids) = omega (arith, least_le (min_with n (f id)) ids, with_le n (f id))

  pub least_each : (n : ℕ) (ids : List ℕ) (id p : ℕ) → list_any (eq_by_cmp nat_cmp id) ids ≡ true → f id ≡ Some p → fold (λ m i. min_with m (f i)) n ids ≤ p
  least_each n [] id p t e = absurd (cc)
  least_each n (j ∷ js) id p t e = ⊎_elim
      (λ h. let at : f j ≡ Some p = ap f (sym (same id j h)) ∙ e in omega (arith, least_le (min_with n (f j)) js, with_place n p (f j) at))
      (λ h. least_each (min_with n (f j)) js id p h e)
      (or_cases _ _ t)

  pub least_reached : (n : ℕ) (ids : List ℕ) → (fold (λ m i. min_with m (f i)) n ids ≡ n) ⊎ ((id : ℕ) × (f id ≡ Some (fold (λ m i. min_with m (f i)) n ids)))
  least_reached n [] = inl refl
  least_reached n (j ∷ js) = ⊎_elim
      (λ e. ⊎_elim (λ a. inl (e ∙ a)) (λ a. inr (j, a ∙ ap Some (sym e))) (with_either n (f j)))
      (λ r. inr r)
      (least_reached (min_with n (f j)) js)

pub least_exact : LeastOfAll
least_exact places n m =
    let ids : List ℕ = map.keys places in
    let here : (id place : ℕ) → place_of places id ≡ Some place → least_with places n ≤ place =
    λ id place e. least_each (place_of places) n ids id place (sym (contains_key-keys places id) ∙ ap is_some e) e in (
      (λ e. subst (λ k. ((k ≡ n) ⊎ ((id : ℕ) × (place_of places id ≡ Some k))) × (k ≤ n) × ((id place : ℕ) → place_of places id ≡ Some place → k ≤ place)) e
          (least_reached (place_of places) n ids, least_le (place_of places) n ids, here)),
      (λ h. let low : m ≤ least_with places n = ⊎_elim (λ e. omega (arith, e, h.1)) (λ r. h.2 r.0 (least_with places n) r.1) (least_reached (place_of places) n ids) in
          let high : least_with places n ≤ m = ⊎_elim (λ e. omega (arith, e, least_le (place_of places) n ids)) (λ r. here r.0 m r.1) h.0 in
          omega arith),
    )

-- where some cursor is there
pub least_min : (places : Places) (n l : ℕ) → IsLeast places l → min n l ≡ least_with places n
least_min places n l is =
    sym ((least_exact places n (min n l)).1 (
      ⊎_elim (λ e. inl e) (λ e. inr (is.there.0, is.there.1 ∙ ap Some (sym e))) (one_of n l),
      (let k : min n l ≤ n = omega arith in k),
      (λ id place e. omega (arith, is.least id place e)),
    ))

pub some_cursor : (places : Places) (id : ℕ) → is_some (place_of places id) ≡ true → places ≢ map.empty
some_cursor places id there e = let no = sym there ∙ ap (λ m. is_some (place_of m id)) e ∙ ap is_some (get-empty nat_cmp id) in cc
