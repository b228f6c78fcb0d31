-- lines and words, joined again
use Rattle.std.proofs.Common.{◌≡◌, ◌≢◌, ℕ, Bool, true, false, List, [], ◌∷◌, refl, ap, sym, ◌∙◌}
use Rattle.std.specs.Prelude.{◌==◌, if◌then◌else◌}
use Rattle.std.specs.List.{flat_map, onto_first, slice_split, All}
use Rattle.std.proofs.lemmas.Bool.{eqb-false, eqb-true}
use Rattle.std.proofs.lemmas.List.Elements.{All-cons, All-head, All-nil, All-tail}
use Rattle.script_text.specs.Lines.{lines_of, with_newline, ended}

-- a byte in front of the first line stands in front of the text
onto_joined : (b c : ℕ) (t : Bool) (lines : List (List ℕ)) → (let all = if t then [] ∷ lines else onto_first c lines in flat_map ended (onto_first b all) ≡ b ∷ flat_map ended all)
onto_joined b c true lines = refl
onto_joined b c false [] = refl
onto_joined b c false (line ∷ lines) = refl

front_joined : (b : ℕ) (t : Bool) (lines : List (List ℕ)) → (t ≡ true → b ≡ 10) → flat_map ended (onto_first b lines) ≡ b ∷ flat_map ended lines
    → flat_map ended (if t then [] ∷ lines else onto_first b lines) ≡ b ∷ flat_map ended lines
front_joined b true lines newline h = ap (λ x. x ∷ flat_map ended lines) (sym (newline refl))
front_joined b false lines newline h = h

last_joined : (b : ℕ) (t : Bool) → (t ≡ true → b ≡ 10) → flat_map ended (if t then [] ∷ [] else onto_first b []) ≡ (if t then b ∷ [] else b ∷ 10 ∷ [])
last_joined b true newline = ap (λ x. x ∷ []) (sym (newline refl))
last_joined b false newline = refl

pub lines_joined : (bytes : List ℕ) → flat_map ended (lines_of bytes) ≡ with_newline bytes
lines_joined [] = refl
lines_joined (b ∷ []) = last_joined b (b == 10) (eqb-true b 10)
lines_joined (b ∷ c ∷ bytes) =
    front_joined b (b == 10) (lines_of (c ∷ bytes)) (eqb-true b 10) (onto_joined b c (c == 10) (lines_of bytes))
    ∙ ap (λ more. b ∷ more) (lines_joined (c ∷ bytes))

-- no part has the byte at which it was cut
abbrev Clean : ℕ → List ℕ → Type 0
Clean cut part = All (λ b. b ≢ cut) part

abbrev Without : ℕ → List (List ℕ) → Type 0
Without cut parts = All (λ part. All (λ b. b ≢ cut) part) parts

with_byte : (cut b : ℕ) (part : List ℕ) (parts : List (List ℕ)) → b ≢ cut → Clean cut part → Without cut parts → Without cut ((b ∷ part) ∷ parts)
with_byte cut b part parts ne h more = All-cons (λ p. All (λ b. b ≢ cut) p) (b ∷ part) parts (All-cons (λ b. b ≢ cut) b part ne h) more

with_empty : (cut : ℕ) (parts : List (List ℕ)) → Without cut parts → Without cut ([] ∷ parts)
with_empty cut parts h = All-cons (λ p. All (λ b. b ≢ cut) p) [] parts (All-nil (λ b. b ≢ cut)) h

onto_without : (cut b : ℕ) (parts : List (List ℕ)) → b ≢ cut → Without cut parts → Without cut (onto_first b parts)
onto_without cut b [] ne h = with_byte cut b [] [] ne (All-nil (λ b. b ≢ cut)) h
onto_without cut b (part ∷ parts) ne h =
    with_byte cut b part parts ne (All-head (λ p. All (λ b. b ≢ cut) p) part parts h) (All-tail (λ p. All (λ b. b ≢ cut) p) part parts h)

step_without : (cut b : ℕ) (t : Bool) (parts : List (List ℕ)) → (t ≡ false → b ≢ cut) → Without cut parts → Without cut (if t then [] ∷ parts else onto_first b parts)
step_without cut b true parts ne h = with_empty cut parts h
step_without cut b false parts ne h = onto_without cut b parts (ne refl) h

pub lines_without : (bytes : List ℕ) → All (λ line. All (λ b. b ≢ 10) line) (lines_of bytes)
lines_without [] = All-nil (λ p. All (λ b. b ≢ 10) p)
lines_without (b ∷ bytes) = step_without 10 b (b == 10) (lines_of bytes) (eqb-false b 10) (lines_without bytes)

pub words_without : (line : List ℕ) → All (λ word. All (λ b. b ≢ 32) word) (slice_split (λ b. b == 32) line)
words_without [] = with_empty 32 [] (All-nil (λ p. All (λ b. b ≢ 32) p))
words_without (b ∷ line) = step_without 32 b (b == 32) (slice_split (λ b. b == 32) line) (eqb-false b 32) (words_without line)
