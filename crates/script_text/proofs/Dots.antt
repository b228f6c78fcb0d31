-- where the first byte of a kind stands, and what stands before and behind it
use Rattle.std.proofs.Common.{◌≡◌, ℕ, suc, ◌+◌, ◌<◌, Bool, true, cond, List, [], ◌∷◌, ◌++◌, length, take, drop, Some, None, refl, ap, ◌∙◌, add-one, arith, length-append}
use Rattle.std.specs.Prelude.{nat_lt, not, position}
use Rattle.std.specs.List.{position_or_len}
use Rattle.std.proofs.lemmas.Bool.{lt-ltb}
use Rattle.script_text.proofs.Words.{clean, unless}

stands_at : (p : ℕ → Bool) (word : List ℕ) (s : ℕ) (rest : List ℕ) → clean p word ≡ true → p s ≡ true → position_or_len p (word ++ s ∷ rest) ≡ length word
stands_at p [] s rest h e = ap (λ t. cond (not t) (1 + position_or_len p rest) 0) e
stands_at p (b ∷ word) s rest h e =
    let parts = unless (p b) (clean p word) h in
    let one : 1 + length word ≡ length (b ∷ word) = omega arith in
    ap (λ t. cond (not t) (1 + position_or_len p (word ++ s ∷ rest)) 0) parts.0 ∙ ap (λ n. 1 + n) (stands_at p word s rest parts.1 e) ∙ one

shorter : (word : List ℕ) (s : ℕ) (rest : List ℕ) → length word < length (word ++ s ∷ rest)
shorter word s rest = omega (arith, length-append word (s ∷ rest))

pub position_at : (p : ℕ → Bool) (word : List ℕ) (s : ℕ) (rest : List ℕ) → clean p word ≡ true → p s ≡ true → position p (word ++ s ∷ rest) ≡ Some (length word)
position_at p word s rest h e =
    ap (λ n. cond (nat_lt n (length (word ++ s ∷ rest))) (Some n) None) (stands_at p word s rest h e)
    ∙ ap (λ t. cond t (Some (length word)) None) (lt-ltb (length word) (length (word ++ s ∷ rest)) (shorter word s rest))

pub taken : (word rest : List ℕ) → take (length word) (word ++ rest) ≡ word
taken [] rest = refl
taken (b ∷ word) rest = ap (λ ws. b ∷ ws) (taken word rest)

next_dropped : (word : List ℕ) (s : ℕ) (rest : List ℕ) → drop (suc (length word)) (word ++ s ∷ rest) ≡ rest
next_dropped [] s rest = refl
next_dropped (b ∷ word) s rest = next_dropped word s rest

pub dropped : (word : List ℕ) (s : ℕ) (rest : List ℕ) → drop (length word + 1) (word ++ s ∷ rest) ≡ rest
dropped word s rest = ap (λ n. drop n (word ++ s ∷ rest)) (add-one (length word)) ∙ next_dropped word s rest
