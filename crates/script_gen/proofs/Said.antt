-- lines that say verbs make a script
use Rattle.std.proofs.Common.{◌≡◌, ℕ, ◌+◌, Bool, true, false, List, [], ◌∷◌, ◌++◌, refl, ap, sym, ◌∙◌}
use Rattle.std.specs.Prelude.{◌==◌, if◌then◌else◌, not}
use Rattle.std.specs.List.{flat_map, list_all, onto_first, AllZip}
use Rattle.std.proofs.lemmas.Bool.{and_parts}
use Rattle.script_text.specs.Lines.{lines_of, ended}
use Rattle.script_text.specs.Sayings.{Says}
use Rattle.script_text.specs.Scripts.{said_from, verb_line_in, bad_line_in, IsScript}
use Rattle.script_text.specs.declared.verb.Verb.{Verb}
use Rattle.script_text.proofs.Readings.{lines_read}
use Rattle.script_gen.specs.Scripts.{numbered}

-- no newline is in the line
abbrev pub is_plain : List ℕ → Bool
is_plain line = list_all (λ b. not (b == 10)) line

-- nor in any of the lines
abbrev pub are_plain : List (List ℕ) → Bool
are_plain lines = list_all is_plain lines

-- ---- lines are cut at their newlines

not_so : (t : Bool) → not t ≡ true → t ≡ false
not_so true h = sym h
not_so false h = refl

first_line : (line rest : List ℕ) → is_plain line ≡ true → lines_of ((line ++ 10 ∷ []) ++ rest) ≡ line ∷ lines_of rest
first_line [] rest h = refl
first_line (b ∷ line) rest h =
    let parts = and_parts (not (b == 10)) (is_plain line) h in
    let all = lines_of ((line ++ 10 ∷ []) ++ rest) in
    ap (λ t. if t then [] ∷ all else onto_first b all) (not_so (b == 10) parts.0) ∙ ap (onto_first b) (first_line line rest parts.1)

cut_again : (lines : List (List ℕ)) → are_plain lines ≡ true → lines_of (flat_map ended lines) ≡ lines
cut_again [] h = refl
cut_again (line ∷ lines) h =
    let parts = and_parts (is_plain line) (are_plain lines) h in
    first_line line (flat_map ended lines) parts.0 ∙ ap (λ more. line ∷ more) (cut_again lines parts.1)

-- ---- and say their verbs

none_bad : (line : ℕ) (lines : List (List ℕ)) (vs : List Verb) → AllZip Says lines vs → flat_map bad_line_in (said_from line lines) ≡ []
none_bad line [] [] h = refl
none_bad line [] (v ∷ vs) h = absurd h
none_bad line (text ∷ lines) [] h = absurd h
none_bad line (text ∷ lines) (v ∷ vs) h =
    (λ k. bad_line_in ((lines_read line text (record { line = line; verb = v })).1 (refl, h.0) k) ++ none_bad (line + 1) lines vs h.1 k)

all_said : (line : ℕ) (lines : List (List ℕ)) (vs : List Verb) → AllZip Says lines vs → flat_map verb_line_in (said_from line lines) ≡ numbered line vs
all_said line [] [] h = refl
all_said line [] (v ∷ vs) h = absurd h
all_said line (text ∷ lines) [] h = absurd h
all_said line (text ∷ lines) (v ∷ vs) h =
    (λ k. verb_line_in ((lines_read line text (record { line = line; verb = v })).1 (refl, h.0) k) ++ all_said (line + 1) lines vs h.1 k)

pub make_script : (lines : List (List ℕ)) (vs : List Verb) → are_plain lines ≡ true → AllZip Says lines vs → IsScript (flat_map ended lines) (numbered 1 vs)
make_script lines vs plain says =
    let cut = cut_again lines plain in
    record {
      none_bad = ap (λ cut. flat_map bad_line_in (said_from 1 cut)) cut ∙ none_bad 1 lines vs says;
      lines = sym (ap (λ cut. flat_map verb_line_in (said_from 1 cut)) cut ∙ all_said 1 lines vs says);
    }
