-- sums of 64 bits
use Rattle.std.proofs.Common.{◌≡◌, ℕ, ◌+◌, ◌*◌, ◌-◌, ◌%◌, ◌^◌, List, [], ◌∷◌, map, refl, ap, ◌∙◌, arith}
use Rattle.std.specs.List.{fold}
use Rattle.std.specs.FinMap.{entries}
use Rattle.vb_types.specs.Images.{Picture}
use Rattle.vb_types.specs.declared.doc.Doc.{Doc}
use Rattle.storm_model.specs.Sums.{contents, number_of, value_sum}

-- one digit more, in 64 bits
abbrev pub with_digit : ℕ → ℕ → ℕ
with_digit n digit = (n * 10 + (digit - 48)) % 2 ^ 64

digit_once : (n d : ℕ) → (n % 2 ^ 64 * 10 + d) % 2 ^ 64 ≡ (n * 10 + d) % 2 ^ 64
digit_once n d = omega arith

digits_from : (n : ℕ) (digits : List ℕ) → fold with_digit (n % 2 ^ 64) digits ≡ fold (λ m digit. m * 10 + (digit - 48)) n digits % 2 ^ 64
digits_from n [] = refl
digits_from n (d ∷ ds) = ap (λ m. fold with_digit m ds) (digit_once n (d - 48)) ∙ digits_from (n * 10 + (d - 48)) ds

pub digits_wrapped : (digits : List ℕ) → fold with_digit 0 digits ≡ number_of digits % 2 ^ 64
digits_wrapped digits = digits_from 0 digits

-- one value more, in 64 bits
abbrev pub with_value : {X : Type 0} → (X → ℕ) → ℕ → X → ℕ
with_value f n x = (n + f x % 2 ^ 64) % 2 ^ 64

value_once : (n d : ℕ) → (n % 2 ^ 64 + d % 2 ^ 64) % 2 ^ 64 ≡ (n + d) % 2 ^ 64
value_once n d = omega arith

values_from : {X : Type 0} (f : X → ℕ) (g : X → List ℕ × Doc) (h : (x : X) → f x ≡ number_of (g x).1.value) (n : ℕ) (xs : List X)
    → fold (with_value f) (n % 2 ^ 64) xs ≡ fold (λ a (d : List ℕ × List ℕ). a + number_of d.1) n (map (λ (e : List ℕ × Doc). (e.0, e.1.value)) (map g xs)) % 2 ^ 64
values_from f g h n [] = refl
values_from f g h n (x ∷ xs) = ap (λ m. fold (with_value f) m xs) (value_once n (f x) ∙ ap (λ d. (n + d) % 2 ^ 64) (h x)) ∙ values_from f g h (n + number_of (g x).1.value) xs

pub values_wrapped : {X : Type 0} (f : X → ℕ) (g : X → List ℕ × Doc) (h : (x : X) → f x ≡ number_of (g x).1.value) (image : Picture) (xs : List X) → map g xs ≡ entries image.docs
    → fold (with_value f) 0 xs ≡ value_sum (contents image)
values_wrapped f g h image xs e = values_from f g h 0 xs ∙ ap (λ es. value_sum (map (λ (e : List ℕ × Doc). (e.0, e.1.value)) es)) e
