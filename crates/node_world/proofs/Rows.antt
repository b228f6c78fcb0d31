-- lists of rows that have a number: a row set, and a row taken out
use Rattle.std.proofs.Common.{◌≡◌, ℕ, Bool, true, false, List, [], ◌∷◌, length, get_or, map, set, remove, refl, ap, sym, ◌∙◌, Option, Some, None, zero, suc, ◌<◌, arith}
use Rattle.std.specs.Prelude.{◌==◌, if◌then◌else◌}
use Rattle.std.proofs.lemmas.Bool.{eq-eqb, eqb-true}
use Rattle.vbucket.specs.Rows.{row_at, row_put, row_out}

module _ {S : Type 0} (number : S → ℕ) where
  -- the row at the first place of a number, with another one there
  pub put_at : (v : ℕ) (xs : List S) (i : ℕ) (d s : S) → i < length xs → (number (get_or xs i d) == v) ≡ true → ((k : ℕ) → k < i → (number (get_or xs k d) == v) ≡ false) → set xs i s ≡ row_put number v s xs
  put_at v [] i d s lt here before = absurd (omega arith)
  put_at v (x ∷ xs) zero d s lt here before = sym (ap (λ b. if b then s ∷ xs else x ∷ row_put number v s xs) here)
  put_at v (x ∷ xs) (suc i) d s lt here before =
      ap (λ ys. x ∷ ys) (put_at v xs i d s (omega arith) here (λ k below. before (suc k) (omega arith)))
      ∙ sym (ap (λ b. if b then s ∷ xs else x ∷ row_put number v s xs) (before 0 (omega arith)))

  -- and without it
  pub out_at : (v : ℕ) (xs : List S) (i : ℕ) (d : S) → i < length xs → (number (get_or xs i d) == v) ≡ true → ((k : ℕ) → k < i → (number (get_or xs k d) == v) ≡ false) → remove xs i ≡ row_out number v xs
  out_at v [] i d lt here before = absurd (omega arith)
  out_at v (x ∷ xs) zero d lt here before = sym (ap (λ b. if b then xs else x ∷ row_out number v xs) here)
  out_at v (x ∷ xs) (suc i) d lt here before =
      ap (λ ys. x ∷ ys) (out_at v xs i d (omega arith) here (λ k below. before (suc k) (omega arith)))
      ∙ sym (ap (λ b. if b then xs else x ∷ row_out number v xs) (before 0 (omega arith)))

  out_rest : (v : ℕ) (x : S) (xs : List S) (b : Bool) → (if b then Some x else row_at number v xs) ≡ None → (row_at number v xs ≡ None → row_out number v xs ≡ xs)
      → (if b then xs else x ∷ row_out number v xs) ≡ x ∷ xs
  out_rest v x xs true e later = cc
  out_rest v x xs false e later = ap (λ ys. x ∷ ys) (later e)

  -- where no row of the number is, none is taken out
  pub out_none : (v : ℕ) (xs : List S) → row_at number v xs ≡ None → row_out number v xs ≡ xs
  out_none v [] e = refl
  out_none v (x ∷ xs) e = out_rest v x xs (number x == v) e (λ f. out_none v xs f)

  number_here : (v : ℕ) (x s : S) (rest : Option S) (b : Bool) → (number x == v) ≡ b → (if b then Some x else rest) ≡ Some s → (rest ≡ Some s → number s ≡ v) → number s ≡ v
  number_here v x s rest true here e later = let is : x ≡ s = cc in ap number (sym is) ∙ eqb-true (number x) v here
  number_here v x s rest false here e later = later e

  -- the row of a number has that number
  pub row_number : (v : ℕ) (xs : List S) (s : S) → row_at number v xs ≡ Some s → number s ≡ v
  row_number v [] s e = cc
  row_number v (x ∷ xs) s e = number_here v x s (row_at number v xs) (number x == v) refl e (λ f. row_number v xs s f)

  -- a row that was put in place of another one is found
  pub put_found : (v : ℕ) (xs : List S) (s t : S) → row_at number v xs ≡ Some s → number t ≡ v → row_at number v (row_put number v t xs) ≡ Some t
  put_found v [] s t e is = cc
  put_found v (x ∷ xs) s t e is = by (number x == v) refl e (λ found. put_found v xs s t found is)
    where
      by : (b : Bool) → (number x == v) ≡ b → (if b then Some x else row_at number v xs) ≡ Some s → (row_at number v xs ≡ Some s → row_at number v (row_put number v t xs) ≡ Some t) → row_at number v (if b then t ∷ xs else x ∷ row_put number v t xs) ≡ Some t
      by true here found later = ap (λ b. if b then Some t else row_at number v xs) (eq-eqb (number t) v is)
      by false away found later = ap (λ b. if b then Some x else row_at number v (row_put number v t xs)) away ∙ later found

  -- a row put in its own place
  pub put_same : (v : ℕ) (xs : List S) (s : S) → row_at number v xs ≡ Some s → row_put number v s xs ≡ xs
  put_same v [] s e = refl
  put_same v (x ∷ xs) s e = by (number x == v) e (λ found. put_same v xs s found)
    where
      by : (b : Bool) → (if b then Some x else row_at number v xs) ≡ Some s → (row_at number v xs ≡ Some s → row_put number v s xs ≡ xs) → (if b then s ∷ xs else x ∷ row_put number v s xs) ≡ x ∷ xs
      by true found later = let is : x ≡ s = cc in ap (λ y. y ∷ xs) (sym is)
      by false found later = ap (λ ys. x ∷ ys) (later found)

  module _ (v : ℕ) (f : S → S) (keeps : (s : S) → number (f s) ≡ number s) where
    -- rows that become others under their numbers: the row of a number does
    pub map_found : (xs : List S) (s : S) → row_at number v xs ≡ Some s → row_at number v (map f xs) ≡ Some (f s)
    map_found [] s e = cc
    map_found (x ∷ xs) s e = ap (λ k. if k == v then Some (f x) else row_at number v (map f xs)) (keeps x) ∙ by (number x == v) e (λ found. map_found xs s found)
      where
        by : (b : Bool) → (if b then Some x else row_at number v xs) ≡ Some s → (row_at number v xs ≡ Some s → row_at number v (map f xs) ≡ Some (f s)) → (if b then Some (f x) else row_at number v (map f xs)) ≡ Some (f s)
        by true found later = let is : x ≡ s = cc in ap (λ y. Some (f y)) is
        by false found later = later found

    -- and one that was put before is put over
    pub put_over : (xs : List S) (s t : S) → number s ≡ v → row_put number v t (map f (row_put number v s xs)) ≡ row_put number v t (map f xs)
    put_over [] s t is = refl
    put_over (x ∷ xs) s t is = by (number x == v) refl (put_over xs s t is)
      where
        by : (b : Bool) → (number x == v) ≡ b → row_put number v t (map f (row_put number v s xs)) ≡ row_put number v t (map f xs) → row_put number v t (map f (if b then s ∷ xs else x ∷ row_put number v s xs)) ≡ row_put number v t (f x ∷ map f xs)
        by true e later =
            ap (λ c. if c then t ∷ map f xs else f s ∷ row_put number v t (map f xs)) (eq-eqb (number (f s)) v (keeps s ∙ is))
            ∙ sym (ap (λ c. if c then t ∷ map f xs else f x ∷ row_put number v t (map f xs)) (ap (λ k. k == v) (keeps x) ∙ e))
        by false e later =
            ap (λ c. if c then t ∷ map f (row_put number v s xs) else f x ∷ row_put number v t (map f (row_put number v s xs))) (ap (λ k. k == v) (keeps x) ∙ e)
            ∙ ap (λ ys. f x ∷ ys) later
            ∙ sym (ap (λ c. if c then t ∷ map f xs else f x ∷ row_put number v t (map f xs)) (ap (λ k. k == v) (keeps x) ∙ e))
