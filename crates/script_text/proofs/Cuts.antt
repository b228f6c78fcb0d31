-- bytes, cut into lines
use Rattle.std.proofs.Common.{◌≡◌, ℕ, zero, suc, ◌+◌, ◌-◌, ◌<◌, ◌≤◌, true, false, cond, List, [], ◌∷◌, length, take, drop, get_or, Some, None, Err, ap, sym, ◌∙◌, add-one, length-drop, arith}
use Rattle.std.specs.Prelude.{◌==◌, position}
use Rattle.std.specs.List.{onto_first, position_or_len, slice_split}
use Rattle.std.proofs.lemmas.List.{take_all}
use Rattle.std.proofs.lemmas.List.Elements.{All-from_get_or}
use Rattle.std.proofs.lemmas.List.Quantifiers.{position-Some}
use Rattle.std.proofs.lemmas.List.Splits.{slice_split_none}
use Rattle.std.proofs.lemmas.List.Sums.{fails_before_first}
use Rattle.script_text.specs.ReadBack.{put_text, or_bad, cut_lines, read_from}
use Rattle.script_text.specs.declared.read_transcript.Reading.{Reading}
use Rattle.script_text.proofs.Rows.{First, first_part}

-- ---- the first byte that parts a text

module _ (c : ℕ) where
  abbrev parts : List ℕ → List (List ℕ)
  parts text = slice_split (λ b. b == c) text

  cut_there : (text : List ℕ) (k : ℕ) → k < length text → (get_or text k 0 == c) ≡ true → ((j : ℕ) → j < k → (get_or text j 0 == c) ≡ false)
      → parts text ≡ take k text ∷ parts (drop (suc k) text)
  cut_there [] k h here before = absurd (omega arith)
  cut_there (b ∷ text) zero h here before = ap (λ t. cond t ([] ∷ parts text) (onto_first b (parts text))) here
  cut_there (b ∷ text) (suc k) h here before =
      ap (λ t. cond t ([] ∷ parts text) (onto_first b (parts text))) (before 0 (omega arith))
      ∙ ap (onto_first b) (cut_there text k (omega arith) here (λ j lt. before (suc j) (omega arith)))

  none_before : (text : List ℕ) → position (λ b. b == c) text ≡ None → length text ≤ position_or_len (λ b. b == c) text
  none_before text h = grind (arith)

  -- what stands behind the first one is shorter
  pub parts_first : (text : List ℕ) (k : ℕ) → position (λ b. b == c) text ≡ Some k
      → (let rest = take (length text - (k + 1)) (drop (k + 1) text) in (parts text ≡ take k text ∷ parts rest) × (length rest < length text))
  parts_first text k h =
      let found = position-Some (λ b. b == c) text k 0 h in
      let all = take_all (length text - (k + 1)) (drop (k + 1) text) (omega (arith, length-drop (k + 1) text)) in
      let rest : take (length text - (k + 1)) (drop (k + 1) text) ≡ drop (suc k) text = all ∙ ap (λ n. drop n text) (add-one k) in
      let within = found.0 in (
        cut_there text k found.0 found.1 found.2 ∙ ap (λ more. take k text ∷ parts more) (sym rest),
        rw all (omega (arith, length-drop (k + 1) text, within)),
      )

  pub parts_none : (text : List ℕ) → position (λ b. b == c) text ≡ None → parts text ≡ text ∷ []
  parts_none text h =
      let far = none_before text h in
      slice_split_none (λ b. b == c) text (All-from_get_or (λ b. (b == c) ≡ false) text 0 (λ j lt. fails_before_first (λ b. b == c) text j 0 (omega arith)))

-- ---- one line is read

step_by : (number : ℕ) (reading : Reading) (text : List ℕ) (parts : List (List ℕ)) → First parts
    → read_from number reading (text ∷ parts) ≡ or_bad number (put_text reading text) (λ r. read_from (number + 1) r parts)
step_by number reading text parts h =
    ap (λ ps. read_from number reading (text ∷ ps)) h.is ∙ ap (λ ps. or_bad number (put_text reading text) (λ r. read_from (number + 1) r ps)) (sym h.is)

read_step : (number : ℕ) (reading : Reading) (bytes text rest : List ℕ) → cut_lines bytes ≡ text ∷ cut_lines rest
    → read_from number reading (cut_lines bytes) ≡ or_bad number (put_text reading text) (λ r. read_from (number + 1) r (cut_lines rest))
read_step number reading bytes text rest h =
    ap (read_from number reading) h ∙ step_by number reading text (cut_lines rest) (first_part (λ b. b == 10) rest)

pub goes_on : (number : ℕ) (reading more : Reading) (bytes text rest : List ℕ) → cut_lines bytes ≡ text ∷ cut_lines rest → put_text reading text ≡ Some more
    → read_from number reading (cut_lines bytes) ≡ read_from (number + 1) more (cut_lines rest)
goes_on number reading more bytes text rest h k =
    read_step number reading bytes text rest h ∙ ap (λ o. or_bad number o (λ r. read_from (number + 1) r (cut_lines rest))) k

pub stops : (number : ℕ) (reading : Reading) (bytes text rest : List ℕ) → cut_lines bytes ≡ text ∷ cut_lines rest → put_text reading text ≡ None
    → read_from number reading (cut_lines bytes) ≡ Err (record { line = number })
stops number reading bytes text rest h k =
    read_step number reading bytes text rest h ∙ ap (λ o. or_bad number o (λ r. read_from (number + 1) r (cut_lines rest))) k
