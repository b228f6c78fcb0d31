-- a stable sort by a number is what placing one after the other makes
use Rattle.std.proofs.Common.{◌≡◌, ◌≢◌, ℕ, zero, suc, ◌+◌, ◌<◌, ◌≤◌, Bool, true, false, cond, List, [], ◌∷◌, ◌++◌, get_or, length, map, refl, ap, sym, ◌∙◌, subst, arith, append_assoc, append-nil}
use Rattle.std.specs.Prelude.{nat_le, nat_lt, not, ◌&&◌}
use Rattle.std.specs.List.{filter, fold, AllByRecursion}
use Rattle.std.specs.List.Sorted.{IsNonDecreasingBy, IsPermutation, ties}
use Rattle.std.specs.Ordering.{is_lt, nat_cmp}
use Rattle.std.proofs.lemmas.Bool.{cond-true, cond-false}
use Rattle.std.proofs.lemmas.Bool.Decides.{nat_tests}
use Rattle.std.proofs.lemmas.List.Elements.{filter-append, recursion_from_All}
use Rattle.std.proofs.lemmas.List.Sorted.{IsPermutation-append_left, IsPermutation-cons, IsPermutation-filter_both, IsPermutation-middle, IsPermutation-refl, IsPermutation-sym, IsPermutation-to_front, IsPermutation-trans}

-- numbers

lt_test : (a b : ℕ) → is_lt (nat_cmp a b) ≡ nat_lt a b
lt_test a b = grind (arith, nat_tests)

level : (a b : ℕ) → a ≡ b → (not (nat_lt a b) && not (nat_lt b a)) ≡ true
level a b e = grind (arith, nat_tests)

leveled : (a b : ℕ) → (not (nat_lt a b) && not (nat_lt b a)) ≡ true → a ≡ b
leveled a b e = grind (arith, nat_tests)

le_yes : (a b : ℕ) → a ≤ b → nat_le a b ≡ true
le_yes a b l = grind (arith, nat_tests)

le_fails : (a b : ℕ) → b < a → nat_le a b ≡ false
le_fails a b l = grind (arith, nat_tests)

lt_yes : (a b : ℕ) → a < b → nat_lt a b ≡ true
lt_yes a b l = grind (arith, nat_tests)

lt_fails : (a b : ℕ) → b ≤ a → nat_lt a b ≡ false
lt_fails a b l = grind (arith, nat_tests)

le_holds : (a b : ℕ) → nat_le a b ≡ true → a ≤ b
le_holds a b e = grind (arith, nat_tests)

lt_holds : (a b : ℕ) → nat_lt a b ≡ true → a < b
lt_holds a b e = grind (arith, nat_tests)

no_lt : (a b : ℕ) → nat_lt a b ≡ false → b ≤ a
no_lt a b e = grind (arith, nat_tests)

-- lists

module _ {X : Type 0} where
  all_pass : (p q : X → Bool) (xs : List X) → ((d : X) → p d ≡ true → q d ≡ true) → filter p (filter q xs) ≡ filter p xs
  all_pass p q [] h = refl
  all_pass p q (x ∷ xs) h = elim (q x) as (λ v. q x ≡ v → filter p (cond v (x ∷ filter q xs) (filter q xs)) ≡ cond (p x) (x ∷ filter p xs) (filter p xs)) [
    | true ↦ λ e. ap (λ ys. cond (p x) (x ∷ ys) ys) (all_pass p q xs h)
    | false ↦ λ e. elim (p x) as (λ v. p x ≡ v → filter p (filter q xs) ≡ cond v (x ∷ filter p xs) (filter p xs)) [
      | true ↦ λ t. let k = h x t in absurd (cc)
      | false ↦ λ t. all_pass p q xs h
    ] refl
  ] refl

  none_pass : (p q : X → Bool) (xs : List X) → ((d : X) → p d ≡ true → q d ≡ false) → filter p (filter q xs) ≡ []
  none_pass p q [] h = refl
  none_pass p q (x ∷ xs) h = elim (q x) as (λ v. q x ≡ v → filter p (cond v (x ∷ filter q xs) (filter q xs)) ≡ []) [
    | true ↦ λ e. elim (p x) as (λ v. p x ≡ v → cond v (x ∷ filter p (filter q xs)) (filter p (filter q xs)) ≡ []) [
      | true ↦ λ t. let k = h x t in absurd (cc)
      | false ↦ λ t. none_pass p q xs h
    ] refl
    | false ↦ λ e. none_pass p q xs h
  ] refl

  each_append : (P : X → Type 0) (xs ys : List X) → AllByRecursion P xs → AllByRecursion P ys → AllByRecursion P (xs ++ ys)
  each_append P [] ys a b = b
  each_append P (x ∷ xs) ys a b = (a.0, each_append P xs ys a.1 b)

  each_weaker : (P Q : X → Type 0) (xs : List X) → ((x : X) → P x → Q x) → AllByRecursion P xs → AllByRecursion Q xs
  each_weaker P Q [] h a = tt
  each_weaker P Q (x ∷ xs) h a = (h x a.0, each_weaker P Q xs h a.1)

  each_filter : (P : X → Type 0) (p : X → Bool) (xs : List X) → AllByRecursion P xs → AllByRecursion P (filter p xs)
  each_filter P p [] a = tt
  each_filter P p (x ∷ xs) a = elim (p x) as (λ v. AllByRecursion P (cond v (x ∷ filter p xs) (filter p xs))) [
    | true ↦ (a.0, each_filter P p xs a.1)
    | false ↦ each_filter P p xs a.1
  ]

  each_passes : (p : X → Bool) (xs : List X) → AllByRecursion (λ x. p x ≡ true) (filter p xs)
  each_passes p [] = tt
  each_passes p (x ∷ xs) = elim (p x) as (λ v. p x ≡ v → AllByRecursion (λ y. p y ≡ true) (cond v (x ∷ filter p xs) (filter p xs))) [
    | true ↦ λ e. (e, each_passes p xs)
    | false ↦ λ e. each_passes p xs
  ] refl

  cancel : (b : Bool) (y : X) (ys zs : List X) → cond b (y ∷ ys) ys ≡ cond b (y ∷ zs) zs → ys ≡ zs
  cancel true y ys zs e = cc
  cancel false y ys zs e = e

module _ {X : Type 0} (n : X → ℕ) where
  -- the numbers of both are equal
  abbrev pub ties_with : X → X → Bool
  ties_with = ties (λ a b. is_lt (nat_cmp (n a) (n b)))

  -- the place behind all whose number is not above its own
  abbrev pub placed_by : List X → X → List X
  placed_by es e = filter (λ d. nat_le (n d) (n e)) es ++ e ∷ filter (λ d. nat_lt (n e) (n d)) es

  ties_test : (x d : X) → ties_with x d ≡ (not (nat_lt (n x) (n d)) && not (nat_lt (n d) (n x)))
  ties_test x d = ap (λ b. not b && not (is_lt (nat_cmp (n d) (n x)))) (lt_test (n x) (n d)) ∙ ap (λ b. not (nat_lt (n x) (n d)) && not b) (lt_test (n d) (n x))

  pub ties_from : (x d : X) → n x ≡ n d → ties_with x d ≡ true
  ties_from x d e = ties_test x d ∙ level (n x) (n d) e

  pub from_ties : (x d : X) → ties_with x d ≡ true → n x ≡ n d
  from_ties x d t = leveled (n x) (n d) (sym (ties_test x d) ∙ t)

  -- one more stands behind all that it ties with
  ties_placed : (x e : X) (es : List X) → filter (ties_with x) (placed_by es e) ≡ filter (ties_with x) (es ++ e ∷ [])
  ties_placed x e es =
      let p : X → Bool = ties_with x in
      let low : X → Bool = λ d. nat_le (n d) (n e) in
      let high : X → Bool = λ d. nat_lt (n e) (n d) in
      filter-append p (filter low es) (e ∷ filter high es)
      ∙ elim (p e) as (λ v. p e ≡ v → filter p (filter low es) ++ cond v (e ∷ filter p (filter high es)) (filter p (filter high es)) ≡ filter p es ++ cond v (e ∷ []) []) [
        | true ↦ λ t.
            let at = from_ties x e t in
            ap (λ ys. ys ++ e ∷ filter p (filter high es)) (all_pass p low es (λ d u. let s = from_ties x d u in le_yes (n d) (n e) (omega arith)))
            ∙ ap (λ zs. filter p es ++ e ∷ zs) (none_pass p high es (λ d u. let s = from_ties x d u in lt_fails (n e) (n d) (omega arith)))
        | false ↦ λ t. elim (nat_lt (n x) (n e)) as (λ v. nat_lt (n x) (n e) ≡ v → filter p (filter low es) ++ filter p (filter high es) ≡ filter p es ++ []) [
          | true ↦ λ l.
              let m = lt_holds (n x) (n e) l in
              ap (λ ys. ys ++ filter p (filter high es)) (all_pass p low es (λ d u. let s = from_ties x d u in le_yes (n d) (n e) (omega arith)))
              ∙ ap (λ zs. filter p es ++ zs) (none_pass p high es (λ d u. let s = from_ties x d u in lt_fails (n e) (n d) (omega arith)))
          | false ↦ λ l.
              let m = no_lt (n x) (n e) l in
              let apart : n x ≢ n e = λ s. let k = ties_from x e s in cc in
              let above : n e < n x = omega arith in
              ap (λ ys. ys ++ filter p (filter high es)) (none_pass p low es (λ d u. let s = from_ties x d u in le_fails (n d) (n e) (omega arith)))
              ∙ all_pass p high es (λ d u. let s = from_ties x d u in lt_yes (n e) (n d) (omega arith))
              ∙ sym (append-nil (filter p es))
        ] refl
      ] refl
      ∙ sym (filter-append p es (e ∷ []))

  -- what ties stands in its order, however many were placed
  pub ties_fold : (x : X) (es xs : List X) → filter (ties_with x) (fold placed_by es xs) ≡ filter (ties_with x) (es ++ xs)
  ties_fold x es [] = ap (filter (ties_with x)) (sym (append-nil es))
  ties_fold x es (e ∷ xs) =
      let p : X → Bool = ties_with x in
      ties_fold x (placed_by es e) xs
      ∙ filter-append p (placed_by es e) xs
      ∙ ap (λ ys. ys ++ filter p xs) (ties_placed x e es)
      ∙ sym (filter-append p (es ++ e ∷ []) xs)
      ∙ ap (filter p) (append_assoc es (e ∷ []) xs)

  turned : (a b : ℕ) → nat_lt b a ≡ not (nat_le a b)
  turned a b = grind (arith, nat_tests)

  moved_in : (es : List X) (e : X) → IsPermutation (es ++ e ∷ []) (placed_by es e)
  moved_in es e =
      let low : X → Bool = λ d. nat_le (n d) (n e) in
      let high : X → Bool = λ d. nat_lt (n e) (n d) in
      let parts : List X = filter low es ++ filter high es in
      IsPermutation-trans (es ++ e ∷ []) (e ∷ es) (placed_by es e) (IsPermutation-to_front es e)
      (IsPermutation-trans (e ∷ es) (e ∷ parts) (placed_by es e) (IsPermutation-cons e es parts (IsPermutation-filter_both low high (λ d. turned (n d) (n e)) es))
      (IsPermutation-sym (placed_by es e) (e ∷ parts) (IsPermutation-middle (filter low es) e (filter high es))))

  -- nothing is lost, and nothing comes twice
  pub moved : (es xs : List X) → IsPermutation (es ++ xs) (fold placed_by es xs)
  moved es [] = subst (λ ys. IsPermutation ys es) (sym (append-nil es)) (IsPermutation-refl es)
  moved es (e ∷ xs) =
      IsPermutation-trans (es ++ e ∷ xs) (placed_by es e ++ xs) (fold placed_by (placed_by es e) xs)
      (subst (λ ys. IsPermutation ys (placed_by es e ++ xs)) (append_assoc es (e ∷ []) xs) (IsPermutation-append_left xs (es ++ e ∷ []) (placed_by es e) (moved_in es e)))
      (moved (placed_by es e) xs)

  -- the numbers do not fall
  abbrev pub Climbs : List X → Type 0
  Climbs [] = Unit {0}
  Climbs (x ∷ xs) = AllByRecursion (λ y. n x ≤ n y) xs × Climbs xs

  pub climbs : (xs : List X) → IsNonDecreasingBy n xs → Climbs xs
  climbs [] h = tt
  climbs (x ∷ xs) h = (
    recursion_from_All (λ y. n x ≤ n y) xs (λ k d l. h 0 (suc k) d (omega arith) (omega arith)),
    climbs xs (λ i j d a b. h (suc i) (suc j) d (omega arith) (omega arith)),
  )

  climbs_suc : (xs : List X) (k : ℕ) (d : X) → Climbs xs → suc k < length xs → n (get_or xs k d) ≤ n (get_or xs (suc k) d)
  climbs_suc [] k d a l = absurd (omega arith)
  climbs_suc (x ∷ []) k d a l = absurd (omega arith)
  climbs_suc (x ∷ y ∷ xs) zero d a l = a.0.0
  climbs_suc (x ∷ y ∷ xs) (suc k) d a l = climbs_suc (y ∷ xs) k d a.1 (omega arith)

  -- each number is not above the next
  pub climbs_next : (xs : List X) (k : ℕ) (d : X) → Climbs xs → k + 1 < length xs → n (get_or xs k d) ≤ n (get_or xs (k + 1) d)
  climbs_next xs k d a l =
      let next : suc k ≡ k + 1 = omega arith in
      subst (λ j. n (get_or xs k d) ≤ n (get_or xs j d)) next (climbs_suc xs k d a (omega arith))

  climbs_filter : (p : X → Bool) (xs : List X) → Climbs xs → Climbs (filter p xs)
  climbs_filter p [] a = tt
  climbs_filter p (x ∷ xs) a = elim (p x) as (λ v. Climbs (cond v (x ∷ filter p xs) (filter p xs))) [
    | true ↦ (each_filter (λ y. n x ≤ n y) p xs a.0, climbs_filter p xs a.1)
    | false ↦ climbs_filter p xs a.1
  ]

  climbs_join : (m : ℕ) (xs ys : List X) → Climbs xs → Climbs ys → AllByRecursion (λ x. n x ≤ m) xs → AllByRecursion (λ y. m ≤ n y) ys → Climbs (xs ++ ys)
  climbs_join m [] ys a b low high = b
  climbs_join m (x ∷ xs) ys a b low high =
      let l : n x ≤ m = low.0 in
      (each_append (λ y. n x ≤ n y) xs ys a.0 (each_weaker (λ y. m ≤ n y) (λ y. n x ≤ n y) ys (λ y h. omega arith) high), climbs_join m xs ys a.1 b low.1 high)

  climbs_placed : (es : List X) (e : X) → Climbs es → Climbs (placed_by es e)
  climbs_placed es e a =
      let low : X → Bool = λ d. nat_le (n d) (n e) in
      let high : X → Bool = λ d. nat_lt (n e) (n d) in
      let above : AllByRecursion (λ y. n e ≤ n y) (filter high es) = each_weaker (λ y. high y ≡ true) (λ y. n e ≤ n y) (filter high es) (λ y t. let k = lt_holds (n e) (n y) t in omega arith) (each_passes high es) in
      climbs_join (n e) (filter low es) (e ∷ filter high es) (climbs_filter low es a) (above, climbs_filter high es a)
      (each_weaker (λ y. low y ≡ true) (λ y. n y ≤ n e) (filter low es) (λ y t. le_holds (n y) (n e) t) (each_passes low es)) (omega arith, above)

  pub climbs_fold : (es xs : List X) → Climbs es → Climbs (fold placed_by es xs)
  climbs_fold es [] a = a
  climbs_fold es (e ∷ xs) a = climbs_fold (placed_by es e) xs (climbs_placed es e a)

  first_low : (y z : X) (ys zs : List X) → AllByRecursion (λ w. n z ≤ n w) zs → ties_with y z ≡ false → filter (ties_with y) (y ∷ ys) ≡ filter (ties_with y) (z ∷ zs) → n z ≤ n y
  first_low y z ys zs low apart e =
      let p : X → Bool = ties_with y in
      let same : filter p zs ≡ y ∷ filter p ys = sym (cond-false (p z) (z ∷ filter p zs) (filter p zs) apart) ∙ sym e ∙ cond-true (p y) (y ∷ filter p ys) (filter p ys) (ties_from y y refl) in
      (subst (AllByRecursion (λ w. n z ≤ n w)) same (each_filter (λ w. n z ≤ n w) p zs low)).0

  -- lists that do not fall are equal where those that tie stand alike
  pub one_order : (ys zs : List X) → Climbs ys → Climbs zs → ((x : X) → filter (ties_with x) ys ≡ filter (ties_with x) zs) → ys ≡ zs
  one_order [] [] a b h = refl
  one_order [] (z ∷ zs) a b h =
      let p : X → Bool = ties_with z in
      let k : [] ≡ z ∷ filter p zs = h z ∙ cond-true (p z) (z ∷ filter p zs) (filter p zs) (ties_from z z refl) in absurd (cc)
  one_order (y ∷ ys) [] a b h =
      let p : X → Bool = ties_with y in
      let k : y ∷ filter p ys ≡ [] = sym (cond-true (p y) (y ∷ filter p ys) (filter p ys) (ties_from y y refl)) ∙ h y in absurd (cc)
  one_order (y ∷ ys) (z ∷ zs) a b h =
      let p : X → Bool = ties_with y in
      elim (p z) as (λ v. p z ≡ v → y ∷ ys ≡ z ∷ zs) [
        | true ↦ λ t.
            let heads : y ∷ filter p ys ≡ z ∷ filter p zs = sym (cond-true (p y) (y ∷ filter p ys) (filter p ys) (ties_from y y refl)) ∙ h y ∙ cond-true (p z) (z ∷ filter p zs) (filter p zs) t in
            let same : y ≡ z = cc in
            let rest : ys ≡ zs = one_order ys zs a.1 b.1 (λ x. cancel (ties_with x y) y (filter (ties_with x) ys) (filter (ties_with x) zs)
            (h x ∙ ap (λ w. cond (ties_with x w) (w ∷ filter (ties_with x) zs) (filter (ties_with x) zs)) (sym same))) in
            ap (λ w. w ∷ ys) same ∙ ap (λ ws. z ∷ ws) rest
        | false ↦ λ t.
            let other : ties_with z y ≡ false = elim (ties_with z y) as (λ v. ties_with z y ≡ v → v ≡ false) [
              | true ↦ λ u. let s = ties_from y z (sym (from_ties z y u)) in absurd (cc)
              | false ↦ λ u. refl
            ] refl in
            let low : n z ≤ n y = first_low y z ys zs b.0 t (h y) in
            let high : n y ≤ n z = first_low z y zs ys a.0 other (sym (h z)) in
            let s = ties_from y z (omega arith) in absurd (cc)
      ] refl

map_append : {A B : Type 0} (f : A → B) (xs ys : List A) → map f (xs ++ ys) ≡ map f xs ++ map f ys
map_append f [] ys = refl
map_append f (x ∷ xs) ys = ap (λ zs. f x ∷ zs) (map_append f xs ys)

map_filter : {A B : Type 0} (f : A → B) (p : B → Bool) (xs : List A) → map f (filter (λ x. p (f x)) xs) ≡ filter p (map f xs)
map_filter f p [] = refl
map_filter f p (x ∷ xs) = elim (p (f x)) as (λ v. map f (cond v (x ∷ filter (λ y. p (f y)) xs) (filter (λ y. p (f y)) xs)) ≡ cond v (f x ∷ filter p (map f xs)) (filter p (map f xs))) [
  | true ↦ ap (λ ys. f x ∷ ys) (map_filter f p xs)
  | false ↦ map_filter f p xs
]

module _ {A X : Type 0} (n : X → ℕ) (f : A → X) where
  map_placed : (es : List A) (e : A) → map f (placed_by (λ a. n (f a)) es e) ≡ placed_by n (map f es) (f e)
  map_placed es e =
      map_append f (filter (λ d. nat_le (n (f d)) (n (f e))) es) (e ∷ filter (λ d. nat_lt (n (f e)) (n (f d))) es)
      ∙ ap (λ ys. ys ++ f e ∷ map f (filter (λ d. nat_lt (n (f e)) (n (f d))) es)) (map_filter f (λ d. nat_le (n d) (n (f e))) es)
      ∙ ap (λ zs. filter (λ d. nat_le (n d) (n (f e))) (map f es) ++ f e ∷ zs) (map_filter f (λ d. nat_lt (n (f e)) (n d)) es)

  map_fold : (es xs : List A) → map f (fold (placed_by (λ a. n (f a))) es xs) ≡ fold (placed_by n) (map f es) (map f xs)
  map_fold es [] = refl
  map_fold es (x ∷ xs) = map_fold (placed_by (λ a. n (f a)) es x) xs ∙ ap (λ ys. fold (placed_by n) ys (map f xs)) (map_placed es x)

  -- a list that does not fall, where those that tie stand as in another, is the other's elements placed in turn
  pub stably_sorted : (ps qs : List A) → IsNonDecreasingBy (λ a. n (f a)) qs → ((x : A) → filter (ties_with (λ a. n (f a)) x) qs ≡ filter (ties_with (λ a. n (f a)) x) ps) → map f qs ≡ fold (placed_by n) [] (map f ps)
  stably_sorted ps qs up alike =
      ap (map f) (one_order (λ a. n (f a)) qs (fold (placed_by (λ a. n (f a))) [] ps) (climbs (λ a. n (f a)) qs up) (climbs_fold (λ a. n (f a)) [] ps tt) (λ x. alike x ∙ sym (ties_fold (λ a. n (f a)) x [] ps)))
      ∙ map_fold [] ps
