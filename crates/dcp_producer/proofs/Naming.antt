-- which names are members'
use Rattle.std.proofs.Common.{◌≡◌, ◌+◌, ◌-◌, ◌<◌, ◌≤◌, ℕ, zero, suc, Bool, true, false, List, [], ◌∷◌, ◌++◌, refl, sym, ap, ◌∙◌, subst, ◌⊎◌, inl, inr, arith}
use Rattle.std.proofs.lemmas.Bool.{and_parts, cases_lt, eqb-true}
use Rattle.std.proofs.lemmas.Bool.Decides.{nat_tests}
use Rattle.std.proofs.lemmas.Fmt.{decimal_digit}
use Rattle.std.specs.Fmt.{digits}
use Rattle.std.specs.Prelude.{if◌then◌else◌, ◌==◌, ◌&&◌, nat_le, codes, decimal}
use Rattle.dcp_producer.specs.declared.desk.Named.TheVariants as named
use Rattle.dcp_producer.specs.Serving.{is_digit, named_by}

-- the numbers of two digits up to 15
two_digits : (k : ℕ) → k ≤ 5 → decimal (10 + k) ≡ 49 ∷ (48 + k) ∷ []
unfolding digits
two_digits zero few = refl
two_digits (suc zero) few = refl
two_digits (suc (suc zero)) few = refl
two_digits (suc (suc (suc zero))) few = refl
two_digits (suc (suc (suc (suc zero)))) few = refl
two_digits (suc (suc (suc (suc (suc zero))))) few = refl
two_digits (suc (suc (suc (suc (suc (suc k)))))) few = absurd (let e : ⊥ = omega arith in e)

is_one : (most k : ℕ) → k ≤ most → is_digit most (48 + k) ≡ true
is_one most k few = grind (arith, nat_tests)

one_of : (most d : ℕ) → is_digit most d ≡ true → (48 ≤ d) × (d ≤ 48 + most)
one_of most d is = let (low, high) = and_parts (nat_le 48 d) (nat_le d (48 + most)) is in (grind (arith, nat_tests), grind (arith, nat_tests))

-- a digit as a number, and back
taken_off : (k : ℕ) → (48 + k) - 48 ≡ k
taken_off k = omega arith

one_named : (m : ℕ) → m ≤ 9 → named_by (110 ∷ (48 + m) ∷ []) ≡ named.Member m
one_named m few = ap (λ b. if b then named.Member ((48 + m) - 48) else named.Stranger) (is_one 9 m few) ∙ ap named.Member (taken_off m)

two_named : (k : ℕ) → k ≤ 5 → named_by (110 ∷ 49 ∷ (48 + k) ∷ []) ≡ named.Member (10 + k)
two_named k few = ap (λ b. if b then named.Member (10 + ((48 + k) - 48)) else named.Stranger) (is_one 5 k few) ∙ ap (λ n. named.Member (10 + n)) (taken_off k)

pub members_named : (m : ℕ) → m ≤ 15 → named_by (codes "n" ++ decimal m) ≡ named.Member m
members_named m few = either (cases_lt m 10)
  where
    either : (m < 10) ⊎ (10 ≤ m) → named_by (codes "n" ++ decimal m) ≡ named.Member m
    either (inl below) = ap (λ text. named_by (110 ∷ text)) (decimal_digit m below) ∙ one_named m (omega arith)
    either (inr above) =
        let e : 10 + (m - 10) ≡ m = omega arith in
        subst (λ n. named_by (codes "n" ++ decimal n) ≡ named.Member n) e
        (ap (λ text. named_by (110 ∷ text)) (two_digits (m - 10) (omega arith)) ∙ two_named (m - 10) (omega arith))

-- a member's name, where this test holds
member_by : (b : Bool) (k m : ℕ) → (if b then named.Member k else named.Stranger) ≡ named.Member m → (b ≡ true) × (k ≡ m)
member_by true k m is = (refl, cc is)
member_by false k m is = absurd (cc is)

stranger_none : (m : ℕ) → named.Stranger ≡ named.Member m → ⊥
stranger_none m is = absurd (cc is)

pub named_only : (m : ℕ) (value : List ℕ) → named_by value ≡ named.Member m → (m ≤ 15) × (value ≡ codes "n" ++ decimal m)
named_only m [] is = absurd (stranger_none m is)
named_only m (n ∷ []) is = absurd (stranger_none m is)
named_only m (n ∷ d ∷ []) is =
    let (test, number) = member_by (n == 110 && is_digit 9 d) (d - 48) m is in
    let (letter, digit) = and_parts (n == 110) (is_digit 9 d) test in
    let (low, high) = one_of 9 d digit in
    let first : n ≡ 110 = eqb-true n 110 letter in
    let same : d ≡ 48 + m = omega arith in
    (omega arith, (λ i. first i ∷ same i ∷ []) ∙ sym (ap (λ text. 110 ∷ text) (decimal_digit m (omega arith))))
named_only m (n ∷ one ∷ d ∷ []) is =
    let (test, number) = member_by ((n == 110 && one == 49) && is_digit 5 d) (10 + (d - 48)) m is in
    let (letters, digit) = and_parts (n == 110 && one == 49) (is_digit 5 d) test in
    let (letter, tens) = and_parts (n == 110) (one == 49) letters in
    let (low, high) = one_of 5 d digit in
    let first : n ≡ 110 = eqb-true n 110 letter in
    let second : one ≡ 49 = eqb-true one 49 tens in
    let same : d ≡ 48 + (m - 10) = omega arith in
    let e : 10 + (m - 10) ≡ m = omega arith in
    (omega arith, (λ i. first i ∷ second i ∷ same i ∷ []) ∙ sym (ap (λ text. 110 ∷ text) (two_digits (m - 10) (omega arith))) ∙ ap (λ k. 110 ∷ decimal k) e)
named_only m (n ∷ one ∷ d ∷ e ∷ more) is = absurd (stranger_none m is)
