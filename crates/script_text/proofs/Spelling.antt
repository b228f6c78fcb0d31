-- what the words of a line show, and what the words of a text are
use Rattle.std.proofs.Common.{◌≡◌, ℕ, ◌+◌, ◌^◌, ◌<◌, ◌≤◌, Bool, true, false, List, [], ◌∷◌, ◌++◌, Option, Some, None, refl, ap, sym, ◌∙◌, subst, inl, inr, ◌⊎◌, arith}
use Rattle.std.specs.Prelude.{◌==◌, if◌then◌else◌, nat_lt, nat_le, ◌&&◌, option_and_then, decimal, map}
use Rattle.std.specs.List.{All, flat_map, join_with_byte}
use Rattle.std.specs.Option.{option_map}
use Rattle.std.specs.Str.{bytes_eq, all_ascii_digits}
use Rattle.std.proofs.lemmas.Bool.{ltb-true, lt-ltb, leb-true, and_parts}
use Rattle.std.proofs.lemmas.Fmt.{digits_decimal}
use Rattle.std.proofs.lemmas.List.{append-nil}
use Rattle.std.proofs.lemmas.List.Elements.{All-cons, All-nil, All-head, All-tail}
use Rattle.std.proofs.lemmas.Slice.Eq.{bytes_eq-Decides}
use Rattle.std.proofs.lemmas.List.Splits.{slice_split_none, slice_split_at}
use Rattle.script_text.specs.Numbers.{number_of, if_below, moved_of, if_frames}
use Rattle.script_text.specs.Lines.{words_of}
use Rattle.script_text.specs.Sayings.{Says}
use Rattle.script_text.specs.declared.numbers.TheConstants.{MOVED, FRAMES}
use Rattle.script_text.specs.declared.verb.Verb.{Verb}
use Rattle.script_text.proofs.Decimals.{own, decimal-number_of, number_of-decimal}

-- ---- what an answer shows

pub if_yes : {A : Type 0} (t : Bool) (x : Option A) (v : A) → (if t then x else None) ≡ Some v → (t ≡ true) × (x ≡ Some v)
if_yes true x v h = (refl, h)
if_yes false x v h = absurd (cc h)

pub mapped : {A B : Type 0} (f : A → B) (o : Option A) (v : B) → option_map f o ≡ Some v → (a : A) × (o ≡ Some a) × (f a ≡ v)
mapped f None v h = absurd (cc h)
mapped f (Some a) v h = (a, refl, cc h)

pub chained : {A B : Type 0} (f : A → Option B) (o : Option A) (v : B) → option_and_then f o ≡ Some v → (a : A) × (o ≡ Some a) × (f a ≡ Some v)
chained f None v h = absurd (cc h)
chained f (Some a) v h = (a, refl, h)

below : (limit n : ℕ) (o : Option ℕ) → if_below limit o ≡ Some n → (o ≡ Some n) × (n < limit)
below limit n None h = absurd (cc h)
below limit n (Some m) h =
    let parts = if_yes (nat_lt m limit) (Some m) n h in
    (parts.1, (let e : m ≡ n = cc parts.1 in subst (λ k. k < limit) e (ltb-true m limit parts.0)))

pub number_below : (limit n : ℕ) (text : List ℕ) → if_below limit (number_of text) ≡ Some n → (text ≡ decimal n) × (n < limit)
number_below limit n text h = let parts = below limit n (number_of text) h in ((decimal-number_of text n parts.0).0, parts.1)

pub number_moved : (n : ℕ) (text : List ℕ) → moved_of text ≡ Some n → (text ≡ decimal n) × (n ≤ 1000000000)
number_moved n text h = let parts = number_below (MOVED + 1) n text h in (parts.0, (let low : n < MOVED + 1 = parts.1 in omega (arith, low)))

framed : (n : ℕ) (o : Option ℕ) → if_frames o ≡ Some n → (o ≡ Some n) × (1 ≤ n) × (n ≤ 1000000)
framed n None h = absurd (cc h)
framed n (Some m) h =
    let parts = if_yes (nat_le 1 m && nat_le m FRAMES) (Some m) n h in
    let tests = and_parts (nat_le 1 m) (nat_le m FRAMES) parts.0 in
    let e : m ≡ n = cc parts.1 in
    (parts.1, subst (λ k. 1 ≤ k) e (leb-true 1 m tests.0), subst (λ k. k ≤ 1000000) e (leb-true m FRAMES tests.1))

pub number_framed : (n : ℕ) (text : List ℕ) → if_frames (number_of text) ≡ Some n → (text ≡ decimal n) × (1 ≤ n) × (n ≤ 1000000)
number_framed n text h = let parts = framed n (number_of text) h in ((decimal-number_of text n parts.0).0, parts.1, parts.2)

pub word_is : (word text : List ℕ) → bytes_eq word text ≡ true → word ≡ text
word_is word text h = (bytes_eq-Decides word text).0 h

pub either : {A : Type 0} (t : Bool) (x y : Option A) (v : A) → (if t then x else y) ≡ Some v → ((t ≡ true) × (x ≡ Some v)) ⊎ (y ≡ Some v)
either true x y v h = inl (refl, h)
either false x y v h = inr h

-- the word that was tested, in front of what stands behind it
with_word : (word text rest : List ℕ) (v : Verb) → bytes_eq word text ≡ true → Says (text ++ 32 ∷ rest) v → Says (word ++ 32 ∷ rest) v
with_word word text rest v t h = subst (λ w. Says (w ++ 32 ∷ rest) v) (sym (word_is word text t)) h

-- the test of one word among others
pub by_word : (word text rest : List ℕ) (x y : Option Verb) (v : Verb) → (x ≡ Some v → Says (text ++ 32 ∷ rest) v) → (y ≡ Some v → Says (word ++ 32 ∷ rest) v)
    → (if bytes_eq word text then x else y) ≡ Some v → Says (word ++ 32 ∷ rest) v
by_word word text rest x y v here there h =
    elim (either (bytes_eq word text) x y v h) [
      | inl p ↦ with_word word text rest v p.0 (here p.1)
      | inr more ↦ there more
    ]

pub no_verb : (line : List ℕ) (v : Verb) → None ≡ Some v → Says line v
no_verb line v h = absurd (cc h)

-- ---- the words of a text

abbrev pub IsWord : List ℕ → Type 0
IsWord text = All (λ b. (b == 32) ≡ false) text

digit_no_space : (c : ℕ) → (nat_le 48 c && nat_le c 57) ≡ true → (c == 32) ≡ false
digit_no_space c h = grind (arith)

digits_word : (ds : List ℕ) → all_ascii_digits ds ≡ true → IsWord ds
digits_word [] h = All-nil (λ b. (b == 32) ≡ false)
digits_word (c ∷ cs) h =
    let parts = and_parts (nat_le 48 c && nat_le c 57) (all_ascii_digits cs) h in
    All-cons (λ b. (b == 32) ≡ false) c cs (digit_no_space c parts.0) (digits_word cs parts.1)

pub decimal_word : (n : ℕ) → n < 2 ^ 64 → IsWord (decimal n)
decimal_word n low = digits_word (decimal n) (digits_decimal own n low)

pub one : (a : List ℕ) → IsWord a → words_of a ≡ a ∷ []
one a h = slice_split_none (λ b. b == 32) a h

pub first : (a rest : List ℕ) (words : List (List ℕ)) → IsWord a → words_of rest ≡ words → words_of (a ++ 32 ∷ rest) ≡ a ∷ words
first a rest words h e = slice_split_at (λ b. b == 32) a 32 rest h refl ∙ ap (λ ws. a ∷ ws) e

pub in_limit : (limit n : ℕ) → n < limit → n < 2 ^ 64 → if_below limit (number_of (decimal n)) ≡ Some n
in_limit limit n h low = ap (if_below limit) (number_of-decimal n low) ∙ ap (λ t. if t then Some n else None) (lt-ltb n limit h)

-- ---- words behind a text, each with a space in front

abbrev pub IsTail : List ℕ → List (List ℕ) → Type 0
IsTail [] words = words ≡ []
IsTail (c ∷ text) words = (c ≡ 32) × (words_of text ≡ words)

pub tailed : (a tail : List ℕ) (words : List (List ℕ)) → IsWord a → IsTail tail words → words_of (a ++ tail) ≡ a ∷ words
tailed a [] words w h = ap words_of (append-nil a) ∙ one a w ∙ ap (λ ws. a ∷ ws) (sym h)
tailed a (c ∷ text) words w h = ap (λ c. words_of (a ++ c ∷ text)) h.0 ∙ first a text words w h.1

pub number_tail : (n : ℕ) → n < 2 ^ 64 → IsTail (32 ∷ decimal n) (decimal n ∷ [])
number_tail n low = (refl, one (decimal n) (decimal_word n low))

pub each_tail : {A : Type 0} (f : A → List ℕ) (xs : List A) → All (λ x. IsWord (f x)) xs → IsTail (flat_map (λ x. 32 ∷ f x) xs) (map f xs)
each_tail f [] h = refl
each_tail f (x ∷ xs) h =
    let here = All-head (λ x. IsWord (f x)) x xs h in
    let more = All-tail (λ x. IsWord (f x)) x xs h in
    (refl, tailed (f x) (flat_map (λ x. 32 ∷ f x) xs) (map f xs) here (each_tail f xs more))

-- words with single spaces between are the first, and the others with a space in front of each
pub joined : (word : List ℕ) (words : List (List ℕ)) → join_with_byte 32 (word ∷ words) ≡ word ++ flat_map (λ t. 32 ∷ t) words
joined word [] = sym (append-nil word)
joined word (next ∷ words) = ap (λ t. word ++ 32 ∷ t) (joined next words)

pub spaced : {A : Type 0} (f : A → List ℕ) (xs : List A) → flat_map (λ t. 32 ∷ t) (map f xs) ≡ flat_map (λ x. 32 ∷ f x) xs
spaced f [] = refl
spaced f (x ∷ xs) = ap (λ t. (32 ∷ f x) ++ t) (spaced f xs)
