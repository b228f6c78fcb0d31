-- the first member of a list that meets a test
use Rattle.std.proofs.Common.{◌≡◌, ℕ, zero, suc, ◌<◌, Bool, true, false, cond, List, [], ◌∷◌, length, get_or, set, refl, ap, sym, ◌∙◌, arith, Option, Some, None, is_some, option_map}
use Rattle.std.specs.Prelude.{◌||◌, if◌then◌else◌}
use Rattle.std.specs.List.{position, find, list_any}
use Rattle.std.proofs.lemmas.Bool.Decides.{nat_tests}

module _ {X : Type 0} (f : X → Bool) where
  pub first_at : (x : X) (xs : List X) (b : Bool) → f x ≡ b → position f (x ∷ xs) ≡ (if b then Some 0 else option_map suc (position f xs))
  first_at x xs true e = grind (arith, nat_tests, e)
  first_at x xs false e = grind (arith, nat_tests, e)

  counted : (o : Option ℕ) → is_some (option_map suc o) ≡ is_some o
  counted None = refl
  counted (Some n) = refl

  -- there is one exactly where it has a place
  pub position_any : (xs : List X) → is_some (position f xs) ≡ list_any f xs
  position_any [] = refl
  position_any (x ∷ xs) = ap is_some (first_at x xs (f x) refl) ∙ by (f x) (position_any xs)
    where
      by : (b : Bool) → is_some (position f xs) ≡ list_any f xs → is_some (if b then Some 0 else option_map suc (position f xs)) ≡ (b || list_any f xs)
      by true later = refl
      by false later = counted (position f xs) ∙ later

  -- it is the one at that place
  pub find_at : (xs : List X) (i : ℕ) (d : X) → i < length xs → f (get_or xs i d) ≡ true → ((k : ℕ) → k < i → f (get_or xs k d) ≡ false) → find f xs ≡ Some (get_or xs i d)
  find_at [] i d lt here before = absurd (omega arith)
  find_at (x ∷ xs) zero d lt here before = ap (λ b. cond b (Some x) (find f xs)) here
  find_at (x ∷ xs) (suc i) d lt here before = ap (λ b. cond b (Some x) (find f xs)) (before 0 (omega arith)) ∙ find_at xs i d (omega arith) here (λ k below. before (suc k) (omega arith))

  -- another member that meets the test as the old one leaves the place
  pub position_set : (xs : List X) (i : ℕ) (d x : X) → i < length xs → f x ≡ f (get_or xs i d) → position f (set xs i x) ≡ position f xs
  position_set [] i d x lt same = absurd (omega arith)
  position_set (y ∷ xs) zero d x lt same = first_at x xs (f x) refl ∙ ap (λ b. if b then Some 0 else option_map suc (position f xs)) same ∙ sym (first_at y xs (f y) refl)
  position_set (y ∷ xs) (suc i) d x lt same =
      first_at y (set xs i x) (f y) refl ∙ ap (λ o. if f y then Some 0 else option_map suc o) (position_set xs i d x (omega arith) same) ∙ sym (first_at y xs (f y) refl)
