-- texts that are read back word by word
use Rattle.std.proofs.Common.{◌≡◌, ℕ, ◌^◌, ◌<◌, Bool, true, false, List, [], ◌∷◌, ◌++◌, Option, Some, refl, ap, ◌∙◌, append_assoc, arith}
use Rattle.std.specs.Prelude.{◌==◌, ◌&&◌, ◌||◌, if◌then◌else◌, nat_le, option_and_then, decimal}
use Rattle.std.specs.List.{All}
use Rattle.std.specs.Str.{all_ascii_digits}
use Rattle.std.proofs.lemmas.Bool.{and_parts}
use Rattle.std.proofs.lemmas.Fmt.{digits_decimal}
use Rattle.std.proofs.lemmas.List.Elements.{All-cons, All-nil}
use Rattle.script_text.specs.Transcript.{spaced}
use Rattle.script_text.proofs.Decimals.{own}

-- ---- what stands before and behind the first byte of a kind

abbrev pub upto : (ℕ → Bool) → List ℕ → List ℕ
upto p [] = []
upto p (b ∷ text) = if p b then [] else b ∷ upto p text

abbrev pub past : (ℕ → Bool) → List ℕ → List ℕ
past p [] = []
past p (b ∷ text) = if p b then text else past p text

abbrev pub found : (ℕ → Bool) → List ℕ → ℕ
found p [] = 0
found p (b ∷ text) = if p b then b else found p text

-- no byte is of the kind
abbrev pub clean : (ℕ → Bool) → List ℕ → Bool
clean p [] = true
clean p (b ∷ text) = if p b then false else clean p text

pub unless : (t u : Bool) → (if t then false else u) ≡ true → (t ≡ false) × (u ≡ true)
unless true u h = absurd (cc h)
unless false u h = (refl, h)

pub upto_at : (p : ℕ → Bool) (word : List ℕ) (s : ℕ) (rest : List ℕ) → clean p word ≡ true → p s ≡ true → upto p (word ++ s ∷ rest) ≡ word
upto_at p [] s rest h e = ap (λ t. if t then [] else s ∷ upto p rest) e
upto_at p (b ∷ word) s rest h e =
    let parts = unless (p b) (clean p word) h in
    ap (λ t. if t then [] else b ∷ upto p (word ++ s ∷ rest)) parts.0 ∙ ap (λ ws. b ∷ ws) (upto_at p word s rest parts.1 e)

pub past_at : (p : ℕ → Bool) (word : List ℕ) (s : ℕ) (rest : List ℕ) → clean p word ≡ true → p s ≡ true → past p (word ++ s ∷ rest) ≡ rest
past_at p [] s rest h e = ap (λ t. if t then rest else past p rest) e
past_at p (b ∷ word) s rest h e =
    let parts = unless (p b) (clean p word) h in
    ap (λ t. if t then word ++ s ∷ rest else past p (word ++ s ∷ rest)) parts.0 ∙ past_at p word s rest parts.1 e

pub found_at : (p : ℕ → Bool) (word : List ℕ) (s : ℕ) (rest : List ℕ) → clean p word ≡ true → p s ≡ true → found p (word ++ s ∷ rest) ≡ s
found_at p [] s rest h e = ap (λ t. if t then s else found p rest) e
found_at p (b ∷ word) s rest h e =
    let parts = unless (p b) (clean p word) h in
    ap (λ t. if t then b else found p (word ++ s ∷ rest)) parts.0 ∙ found_at p word s rest parts.1 e

-- ---- clean words

pub clean_both : (p : ℕ → Bool) (a b : List ℕ) → clean p a ≡ true → clean p b ≡ true → clean p (a ++ b) ≡ true
clean_both p [] b h k = k
clean_both p (x ∷ a) b h k =
    let parts = unless (p x) (clean p a) h in ap (λ t. if t then false else clean p (a ++ b)) parts.0 ∙ clean_both p a b parts.1 k

pub clean_all : (p : ℕ → Bool) (word : List ℕ) → clean p word ≡ true → All (λ b. p b ≡ false) word
clean_all p [] h = All-nil (λ b. p b ≡ false)
clean_all p (b ∷ word) h = let parts = unless (p b) (clean p word) h in All-cons (λ b. p b ≡ false) b word parts.0 (clean_all p word parts.1)

digits_clean : (p : ℕ → Bool) → ((b : ℕ) → (nat_le 48 b && nat_le b 57) ≡ true → p b ≡ false) → (ds : List ℕ) → all_ascii_digits ds ≡ true → clean p ds ≡ true
digits_clean p other [] h = refl
digits_clean p other (c ∷ cs) h =
    let parts = and_parts (nat_le 48 c && nat_le c 57) (all_ascii_digits cs) h in
    ap (λ t. if t then false else clean p cs) (other c parts.0) ∙ digits_clean p other cs parts.1

pub decimal_clean : (p : ℕ → Bool) → ((b : ℕ) → (nat_le 48 b && nat_le b 57) ≡ true → p b ≡ false) → (n : ℕ) → n < 2 ^ 64 → clean p (decimal n) ≡ true
decimal_clean p other n low = digits_clean p other (decimal n) (digits_decimal own n low)

-- ---- words end at a space or a newline

abbrev pub ends : ℕ → Bool
ends b = b == 32 || b == 10

pub no_end : (b : ℕ) → (b == 32) ≡ false → (b == 10) ≡ false → ends b ≡ false
no_end b space newline = ap (λ t. t || b == 10) space ∙ newline

pub digit_no_end : (b : ℕ) → (nat_le 48 b && nat_le b 57) ≡ true → ends b ≡ false
digit_no_end b h =
    let space : (b == 32) ≡ false = grind (arith) in
    let newline : (b == 10) ≡ false = grind (arith) in
    no_end b space newline

-- the first word, and what is made of it and of the rest
unfoldable pub reading : {A X : Type 0} → (List ℕ → Option A) → List ℕ → (A → List ℕ → Option X) → Option X
reading f text k = option_and_then (λ a. k a (past ends text)) (f (upto ends text))

pub read_word : {A X : Type 0} (f : List ℕ → Option A) (word : List ℕ) (a : A) (s : ℕ) (rest : List ℕ) (k : A → List ℕ → Option X)
    → clean ends word ≡ true → ends s ≡ true → f word ≡ Some a → reading f (word ++ s ∷ rest) k ≡ k a rest
unfolding reading
read_word f word a s rest k h e is =
    ap (λ w. option_and_then (λ a. k a (past ends (word ++ s ∷ rest))) (f w)) (upto_at ends word s rest h e)
    ∙ ap (option_and_then (λ a. k a (past ends (word ++ s ∷ rest)))) is
    ∙ ap (k a) (past_at ends word s rest h e)

-- ---- words in a row

abbrev pub in_row : List (List ℕ) → ℕ → List ℕ → List ℕ
in_row [] s rest = s ∷ rest
in_row (word ∷ []) s rest = word ++ s ∷ rest
in_row (word ∷ next ∷ words) s rest = word ++ 32 ∷ in_row (next ∷ words) s rest

pub spaced_in_row : (words : List (List ℕ)) (s : ℕ) (rest : List ℕ) → spaced words ++ s ∷ rest ≡ in_row words s rest
spaced_in_row [] s rest = refl
spaced_in_row (word ∷ []) s rest = refl
spaced_in_row (word ∷ next ∷ words) s rest =
    append_assoc word (32 ∷ spaced (next ∷ words)) (s ∷ rest) ∙ ap (λ more. word ++ 32 ∷ more) (spaced_in_row (next ∷ words) s rest)
