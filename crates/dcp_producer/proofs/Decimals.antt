-- a window's size is said by its decimal
use Rattle.std.proofs.Common.{◌≡◌, ℕ, ◌+◌, ◌-◌, ◌*◌, ◌^◌, ◌<◌, ◌≤◌, Bool, true, false, List, [], ◌∷◌, length, get_or, Option, Some, None, refl, ap, sym, ◌∙◌, subst, inl, inr, arith, rules}
use Rattle.std.specs.Prelude.{◌==◌, ◌&&◌, if◌then◌else◌, nat_lt, nat_le, decimal, ◌↔◌}
use Rattle.std.specs.List.{fold}
use Rattle.std.specs.Str.{all_ascii_digits}
use Rattle.std.proofs.lemmas.Bool.{cases_eq, and_parts, ltb-true, eqb-false}
use Rattle.std.proofs.lemmas.Str.Parse.{IsNumeralModel, numerals_by_fold}
use Rattle.std.proofs.lemmas.Fmt.{digits_decimal, digits_value-decimal, decimal-digits_value, decimal_nonempty, first_decimal, decimal_digit}
use Rattle.std.proofs.lemmas.Bool.{lt-ltb}
use Rattle.dcp_producer.specs.Sizes.{digit_step, size_of}

-- digits read on from a number
abbrev read_on : ℕ → List ℕ → ℕ
read_on n [] = n
read_on n (c ∷ cs) = read_on (n * 10 + (c - 48)) cs

own : IsNumeralModel (λ ds. all_ascii_digits ds ≡ true) (read_on 0)
own = numerals_by_fold _ (search rules) read_on (search rules)

read_on-ge : (n : ℕ) (ds : List ℕ) → n ≤ read_on n ds
read_on-ge n [] = omega arith
read_on-ge n (c ∷ cs) = let more = read_on-ge (n * 10 + (c - 48)) cs in omega arith

none_stays : (ds : List ℕ) (r : ℕ) → fold digit_step None ds ≡ Some r → ⊥
none_stays [] r h = absurd (cc h)
none_stays (c ∷ cs) r h = none_stays cs r h

-- a step that was taken
step_parts : (t u : Bool) (m : ℕ) (ds : List ℕ) (r : ℕ) → fold digit_step (if t && u then Some m else None) ds ≡ Some r → (t ≡ true) × (u ≡ true) × (fold digit_step (Some m) ds ≡ Some r)
step_parts true true m ds r h = (refl, refl, h)
step_parts true false m ds r h = absurd (none_stays ds r h)
step_parts false u m ds r h = absurd (none_stays ds r h)

step_taken : (t u : Bool) (m : ℕ) (ds : List ℕ) (r : ℕ) → t ≡ true → u ≡ true → fold digit_step (Some m) ds ≡ Some r → fold digit_step (if t && u then Some m else None) ds ≡ Some r
step_taken true true m ds r ht hu h = h
step_taken true false m ds r ht hu h = absurd (cc hu)
step_taken false u m ds r ht hu h = absurd (cc ht)

steps-digits : (n : ℕ) (ds : List ℕ) (r : ℕ) → n < 2 ^ 32 → fold digit_step (Some n) ds ≡ Some r → (all_ascii_digits ds ≡ true) × (read_on n ds ≡ r) × (r < 2 ^ 32)
steps-digits n [] r low h = let e : n ≡ r = cc h in (refl, e, subst (λ m. m < 2 ^ 32) e low)
steps-digits n (c ∷ cs) r low h =
    let parts = step_parts (nat_le 48 c && nat_le c 57) (nat_lt (n * 10 + (c - 48)) (2 ^ 32)) (n * 10 + (c - 48)) cs r h in
    let rest = steps-digits (n * 10 + (c - 48)) cs r (ltb-true _ _ parts.1) parts.2 in
    (ap (λ t. t && all_ascii_digits cs) parts.0 ∙ rest.0, rest.1, rest.2)

digits-steps : (n : ℕ) (ds : List ℕ) → all_ascii_digits ds ≡ true → read_on n ds < 2 ^ 32 → fold digit_step (Some n) ds ≡ Some (read_on n ds)
digits-steps n [] h low = refl
digits-steps n (c ∷ cs) h low =
    let parts = and_parts (nat_le 48 c && nat_le c 57) (all_ascii_digits cs) h in
    let more = read_on-ge (n * 10 + (c - 48)) cs in
    let fits : nat_lt (n * 10 + (c - 48)) (2 ^ 32) ≡ true = lt-ltb _ _ (omega arith) in
    step_taken (nat_le 48 c && nat_le c 57) (nat_lt (n * 10 + (c - 48)) (2 ^ 32)) (n * 10 + (c - 48)) cs (read_on n (c ∷ cs)) parts.0 fits (digits-steps (n * 10 + (c - 48)) cs parts.1 low)

-- neither empty nor with a needless zero
tests_passed : (t u : Bool) (x : Option ℕ) (n : ℕ) → (if t then None else if u then None else x) ≡ Some n → (t ≡ false) × (u ≡ false) × (x ≡ Some n)
tests_passed true u x n h = absurd (cc h)
tests_passed false true x n h = absurd (cc h)
tests_passed false false x n h = (refl, refl, h)

pass_tests : (t u : Bool) (x : Option ℕ) (n : ℕ) → t ≡ false → u ≡ false → x ≡ Some n → (if t then None else if u then None else x) ≡ Some n
pass_tests true u x n ht hu h = absurd (cc ht)
pass_tests false true x n ht hu h = absurd (cc hu)
pass_tests false false x n ht hu h = h

first_zero : (text : List ℕ) → (nat_lt 1 (length text) && (get_or text 0 0 == 48)) ≡ false → (length text == 0) ≡ false → get_or text 0 0 ≡ 48 → length text ≡ 1
first_zero text zero_first empty e = grind (arith)

wide : (n : ℕ) → n < 2 ^ 32 → n < 2 ^ 64
wide n low = omega arith

no_zero : (n : ℕ) → n < 2 ^ 32 → (nat_lt 1 (length (decimal n)) && (get_or (decimal n) 0 0 == 48)) ≡ false
no_zero n low =
    elim (cases_eq n 0) [
      | inl e ↦ rw (e, decimal_digit 0 (omega arith)) refl
      | inr ne ↦ let first = first_decimal n (omega arith) (wide n low) in grind (arith)
    ]

decimal-size_of : (value : List ℕ) (n : ℕ) → size_of value ≡ Some n → (value ≡ decimal n) × (n < 2 ^ 32)
unfolding size_of
decimal-size_of value n h =
    let tests = tests_passed (length value == 0) (nat_lt 1 (length value) && (get_or value 0 0 == 48)) (fold digit_step (Some 0) value) n h in
    let digits = steps-digits 0 value n (omega arith) tests.2 in
    let low : read_on 0 value < 2 ^ 32 = subst (λ m. m < 2 ^ 32) (sym digits.1) digits.2 in
    let some : 0 < length value = (let ne = eqb-false (length value) 0 tests.0 in omega arith) in
    (sym (decimal-digits_value own value digits.0 some (first_zero value tests.1 tests.0) (wide (read_on 0 value) low)) ∙ ap decimal digits.1, digits.2)

size_of-decimal : (n : ℕ) → n < 2 ^ 32 → size_of (decimal n) ≡ Some n
unfolding size_of
size_of-decimal n low =
    let value = digits_value-decimal own n (wide n low) in
    let some = decimal_nonempty n (wide n low) in
    let here : (length (decimal n) == 0) ≡ false = grind (arith) in
    pass_tests _ _ _ n here (no_zero n low) (digits-steps 0 (decimal n) (digits_decimal own n (wide n low)) (subst (λ m. m < 2 ^ 32) (sym value) low) ∙ ap Some value)

pub sizes : (value : List ℕ) (n : ℕ) → (size_of value ≡ Some n) ↔ ((value ≡ decimal n) × (n < 2 ^ 32))
sizes value n = (decimal-size_of value n, λ h. ap size_of h.0 ∙ size_of-decimal n h.1)
