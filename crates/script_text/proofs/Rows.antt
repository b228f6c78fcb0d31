-- the words of lines that are made of texts with spaces between
use Rattle.std.proofs.Common.{◌≡◌, ◌≢◌, ℕ, ◌^◌, ◌<◌, Bool, true, false, List, [], ◌∷◌, ◌++◌, refl, ap, sym, ◌∙◌}
use Rattle.std.specs.Prelude.{◌==◌, ◌||◌, if◌then◌else◌, decimal}
use Rattle.std.specs.List.{All, flat_map, onto_first, slice_split}
use Rattle.std.proofs.lemmas.Bool.{eqb-false}
use Rattle.std.proofs.lemmas.List.{append-nil}
use Rattle.std.proofs.lemmas.List.Elements.{All-append, All-cons, All-head, All-nil, All-tail, All-weaker}
use Rattle.std.proofs.lemmas.List.Splits.{slice_split_none}
use Rattle.script_text.specs.Lines.{words_of}
use Rattle.script_text.specs.Transcript.{spaced}
use Rattle.script_text.specs.ReadBack.{IsPlain}
use Rattle.script_text.proofs.Words.{ends, clean, clean_all, decimal_clean, digit_no_end}

-- ---- a text is cut at a byte in its middle, and its two sides for themselves

-- a text has a first part
pub record First (parts : List (List ℕ)) : Type 0 where
  pub part : List ℕ
  pub rest : List (List ℕ)
  pub is : parts ≡ part ∷ rest

first_by : (t : Bool) (b : ℕ) (parts : List (List ℕ)) → First parts → First (if t then [] ∷ parts else onto_first b parts)
first_by true b parts h = record { part = []; rest = parts; is = refl }
first_by false b parts h = record { part = b ∷ h.part; rest = h.rest; is = ap (onto_first b) h.is }

pub first_part : (p : ℕ → Bool) (text : List ℕ) → First (slice_split p text)
first_part p [] = record { part = []; rest = []; is = refl }
first_part p (b ∷ text) = first_by (p b) b (slice_split p text) (first_part p text)

onto_both : (b : ℕ) (parts more : List (List ℕ)) → First parts → onto_first b (parts ++ more) ≡ onto_first b parts ++ more
onto_both b parts more h = ap (λ ps. onto_first b (ps ++ more)) h.is ∙ ap (λ ps. onto_first b ps ++ more) (sym h.is)

cut_by : (t : Bool) (b : ℕ) (parts more : List (List ℕ)) → First parts
    → (if t then [] ∷ (parts ++ more) else onto_first b (parts ++ more)) ≡ (if t then [] ∷ parts else onto_first b parts) ++ more
cut_by true b parts more h = refl
cut_by false b parts more h = onto_both b parts more h

pub cut_at : (p : ℕ → Bool) (text : List ℕ) (s : ℕ) (more : List ℕ) → p s ≡ true
    → slice_split p (text ++ s ∷ more) ≡ slice_split p text ++ slice_split p more
cut_at p [] s more h = ap (λ t. if t then [] ∷ slice_split p more else onto_first s (slice_split p more)) h
cut_at p (b ∷ text) s more h =
    ap (λ parts. if p b then [] ∷ parts else onto_first b parts) (cut_at p text s more h)
    ∙ cut_by (p b) b (slice_split p text) (slice_split p more) (first_part p text)

-- ---- words and newlines

either_false : (t u : Bool) → (t || u) ≡ false → (t ≡ false) × (u ≡ false)
either_false true u h = absurd (cc h)
either_false false u h = (refl, h)

-- a text's words, and that it has no newline
pub record Part (text : List ℕ) (words : List (List ℕ)) : Type 0 where
  pub words_are : words_of text ≡ words
  pub plain : IsPlain text

-- the same of texts in a row
pub record Row (texts words : List (List ℕ)) : Type 0 where
  pub words_are : flat_map words_of texts ≡ words
  pub plain : All IsPlain texts

pub word_part : (word : List ℕ) → clean ends word ≡ true → Part word (word ∷ [])
word_part word h =
    let none = clean_all ends word h in
    record {
      words_are = slice_split_none (λ b. b == 32) word (All-weaker (λ b. ends b ≡ false) (λ b. (b == 32) ≡ false) (λ b e. (either_false (b == 32) (b == 10) e).0) word none);
      plain = All-weaker (λ b. ends b ≡ false) (λ b. b ≢ 10) (λ b e. eqb-false b 10 (either_false (b == 32) (b == 10) e).1) word none;
    }

pub number_part : (n : ℕ) → n < 2 ^ 64 → Part (decimal n) (decimal n ∷ [])
number_part n h = word_part (decimal n) (decimal_clean ends digit_no_end n h)

pub none : Row [] []
none = record { words_are = refl; plain = All-nil IsPlain }

-- one more text in front
infixr 5 ◌⟫◌
pub ◌⟫◌ : {text : List ℕ} {parts : List (List ℕ)} {texts words : List (List ℕ)} → Part text parts → Row texts words → Row (text ∷ texts) (parts ++ words)
◌⟫◌ {text} {parts} {texts} {words} h k = record {
  words_are = ap (λ ps. ps ++ flat_map words_of texts) h.words_are ∙ ap (λ ws. parts ++ ws) k.words_are;
  plain = All-cons IsPlain text texts h.plain k.plain;
}

-- ---- a row of texts with spaces between

words_spaced : (text : List ℕ) (texts : List (List ℕ)) → words_of (spaced (text ∷ texts)) ≡ flat_map words_of (text ∷ texts)
words_spaced text [] = sym (append-nil (words_of text))
words_spaced text (next ∷ texts) =
    cut_at (λ b. b == 32) text 32 (spaced (next ∷ texts)) refl ∙ ap (λ ws. words_of text ++ ws) (words_spaced next texts)

plain_spaced : (text : List ℕ) (texts : List (List ℕ)) → All IsPlain (text ∷ texts) → IsPlain (spaced (text ∷ texts))
plain_spaced text [] h = All-head IsPlain text [] h
plain_spaced text (next ∷ texts) h =
    All-append (λ b. b ≢ 10) text (32 ∷ spaced (next ∷ texts)) (All-head IsPlain text (next ∷ texts) h)
    (All-cons (λ b. b ≢ 10) 32 (spaced (next ∷ texts)) (eqb-false 32 10 refl) (plain_spaced next texts (All-tail IsPlain text (next ∷ texts) h)))

pub row_part : {text : List ℕ} {texts words : List (List ℕ)} → Row (text ∷ texts) words → Part (spaced (text ∷ texts)) words
row_part {text} {texts} h = record {
  words_are = words_spaced text texts ∙ h.words_are;
  plain = plain_spaced text texts h.plain;
}
