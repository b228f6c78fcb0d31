-- lines with their newlines, one behind the other, are told apart again
use Rattle.std.proofs.Common.{◌≡◌, ◌≢◌, ℕ, List, [], ◌∷◌, ◌++◌, refl, ap, sym, ◌∙◌, subst, append_assoc}
use Rattle.std.specs.List.{All, flat_map}
use Rattle.std.proofs.lemmas.List.Elements.{All-head, All-tail}
use Rattle.script_text.specs.Lines.{ended}
use Rattle.script_text.specs.ReadBack.{IsPlain}

-- what has a newline is not plain
pub not_plain : (text more : List ℕ) → ¬ IsPlain (ended text ++ more)
not_plain [] more h = All-head (λ b. b ≢ 10) 10 more h refl
not_plain (b ∷ text) more h = not_plain text more (All-tail (λ b. b ≢ 10) b (ended text ++ more) h)

pub not_empty : (text more : List ℕ) → ¬ ([] ≡ ended text ++ more)
not_empty [] more h = absurd (cc h)
not_empty (b ∷ text) more h = absurd (cc h)

same_byte : (b c : ℕ) (x y : List ℕ) → b ∷ x ≡ c ∷ y → b ≡ c
same_byte b c x y h = cc h

same_rest : (b c : ℕ) (x y : List ℕ) → b ∷ x ≡ c ∷ y → x ≡ y
same_rest b c x y h = cc h

-- the first lines are the same, and so is the rest
pub same_line : (x y a b : List ℕ) → IsPlain x → IsPlain y → ended x ++ a ≡ ended y ++ b → (x ≡ y) × (a ≡ b)
same_line [] [] a b h k e = (refl, same_rest 10 10 a b e)
same_line [] (c ∷ y) a b h k e = absurd (All-head (λ b. b ≢ 10) c y k (sym (same_byte 10 c a (ended y ++ b) e)))
same_line (c ∷ x) [] a b h k e = absurd (All-head (λ b. b ≢ 10) c x h (same_byte c 10 (ended x ++ a) b e))
same_line (c ∷ x) (d ∷ y) a b h k e =
    let first = same_byte c d (ended x ++ a) (ended y ++ b) e in
    let rest = same_line x y a b (All-tail (λ b. b ≢ 10) c x h) (All-tail (λ b. b ≢ 10) d y k) (same_rest c d (ended x ++ a) (ended y ++ b) e) in
    (λ i. first i ∷ rest.0 i, rest.1)

pub first_line : (line : List ℕ) (lines : List (List ℕ)) (more : List ℕ) → flat_map ended (line ∷ lines) ++ more ≡ ended line ++ (flat_map ended lines ++ more)
first_line line lines more = append_assoc (ended line) (flat_map ended lines) more

-- lines that are others with a plain rest behind them are those, and nothing is left
pub same_lines : (lines others : List (List ℕ)) (rest : List ℕ) → All IsPlain lines → All IsPlain others → IsPlain rest
    → flat_map ended lines ≡ flat_map ended others ++ rest → (lines ≡ others) × (rest ≡ [])
same_lines [] [] rest h k p e = (refl, sym e)
same_lines (line ∷ lines) [] rest h k p e = absurd (not_plain line (flat_map ended lines) (subst (λ text. IsPlain text) (sym e) p))
same_lines [] (other ∷ others) rest h k p e = absurd (not_empty other (flat_map ended others ++ rest) (e ∙ first_line other others rest))
same_lines (line ∷ lines) (other ∷ others) rest h k p e =
    let first = same_line line other (flat_map ended lines) (flat_map ended others ++ rest) (All-head IsPlain line lines h) (All-head IsPlain other others k) (e ∙ first_line other others rest) in
    let more = same_lines lines others rest (All-tail IsPlain line lines h) (All-tail IsPlain other others k) p first.1 in
    (λ i. first.0 i ∷ more.0 i, more.1)

-- lines that begin with others and one more have that one behind those
pub record Next (lines others : List (List ℕ)) (text : List ℕ) : Type 0 where
  pub more : List (List ℕ)
  pub are : lines ≡ others ++ text ∷ more

pub next_line : (lines others : List (List ℕ)) (text more : List ℕ) → All IsPlain lines → All IsPlain others → IsPlain text
    → flat_map ended lines ≡ flat_map ended others ++ (ended text ++ more) → Next lines others text
next_line [] [] text more h k p e = absurd (not_empty text more e)
next_line (line ∷ lines) [] text more h k p e =
    let first = same_line line text (flat_map ended lines) more (All-head IsPlain line lines h) p e in
    record { more = lines; are = ap (λ l. l ∷ lines) first.0 }
next_line [] (other ∷ others) text more h k p e = absurd (not_empty other (flat_map ended others ++ (ended text ++ more)) (e ∙ first_line other others (ended text ++ more)))
next_line (line ∷ lines) (other ∷ others) text more h k p e =
    let rest = ended text ++ more in
    let first = same_line line other (flat_map ended lines) (flat_map ended others ++ rest) (All-head IsPlain line lines h) (All-head IsPlain other others k) (e ∙ first_line other others rest) in
    let next = next_line lines others text more (All-tail IsPlain line lines h) (All-tail IsPlain other others k) p first.1 in
    let are = next.are in
    record { more = next.more; are = λ i. first.0 i ∷ are i }
