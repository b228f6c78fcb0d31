-- the text of lines, line by line
use Rattle.std.proofs.Common.{◌≡◌, ℕ, zero, suc, ◌+◌, ◌<◌, List, [], ◌∷◌, ◌++◌, length, drop, refl, sym, ap, ◌∙◌, arith, append_assoc, append-nil}
use Rattle.std.specs.Prelude.{slice_index_or, ◌≤◌}
use Rattle.storm_model.specs.declared.lines.StormLine.{StormLine}
use Rattle.storm_model.specs.Texts.{line_text, lines_text}

drop_at : (i : ℕ) (lines : List StormLine) (d : StormLine) → i < length lines → drop i lines ≡ slice_index_or lines i d ∷ drop (suc i) lines
drop_at i [] d l = absurd (omega arith)
drop_at zero (x ∷ xs) d l = refl
drop_at (suc i) (x ∷ xs) d l = drop_at i xs d (omega arith)

none_left : (i : ℕ) (lines : List StormLine) → length lines ≤ i → drop i lines ≡ []
none_left zero [] l = refl
none_left (suc i) [] l = refl
none_left zero (x ∷ xs) l = absurd (omega arith)
none_left (suc i) (x ∷ xs) l = none_left i xs (omega arith)

pub text_more : (i v : ℕ) (lines : List StormLine) (d : StormLine) (text part : List ℕ) → i < length lines → part ≡ line_text v (slice_index_or lines i d)
    → text ++ lines_text v (drop i lines) ≡ (text ++ part) ++ lines_text (v + 1) (drop (i + 1) lines)
unfolding lines_text
text_more i v lines d text part l e =
    let next : suc i ≡ i + 1 = omega arith in
    ap (λ rest. text ++ lines_text v rest) (drop_at i lines d l)
    ∙ sym (append_assoc text (line_text v (slice_index_or lines i d)) (lines_text (v + 1) (drop (suc i) lines)))
    ∙ (λ j. (text ++ sym e j) ++ lines_text (v + 1) (drop (next j) lines))

pub text_all : (i v : ℕ) (lines : List StormLine) (text : List ℕ) → length lines ≤ i → text ++ lines_text v (drop i lines) ≡ text
unfolding lines_text
text_all i v lines text l = ap (λ rest. text ++ lines_text v rest) (none_left i lines l) ∙ append-nil text
