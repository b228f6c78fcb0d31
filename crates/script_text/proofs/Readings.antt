-- what a line is read as
use Rattle.std.proofs.Common.{◌≡◌, ℕ, Bool, true, false, List, [], ◌∷◌, Option, Some, None, refl, ap, sym, ◌∙◌, inl, inr}
use Rattle.std.specs.Prelude.{◌↔◌, if◌then◌else◌}
use Rattle.std.proofs.lemmas.Bool.{eqb-true}
use Rattle.script_text.specs.Lines.{words_of}
use Rattle.script_text.specs.Grammar.{verb_of}
use Rattle.script_text.specs.Sayings.{Says, IsBlank, IsOutside}
use Rattle.script_text.specs.Scripts.{is_blank, verb_said, line_said}
use Rattle.script_text.specs.declared.verb.Verb.{Verb}
use Rattle.script_text.specs.declared.verb.ScriptLine.{ScriptLine}
use Rattle.script_text.specs.declared.script.Said.{Said}
use Rattle.script_text.specs.declared.script.Said.TheVariants as said
use Rattle.script_text.proofs.Spelled.{lines_say, spelled_read}
use Rattle.script_text.proofs.Steps.{line_shows}

read_back : (number : ℕ) (line : List ℕ) (read : ScriptLine) → read.line ≡ number → Says line read.verb → line_said number line ≡ said.Line read
unfolding line_said
read_back number line read e h =
    ap (λ t. if t then said.Nothing else verb_said number (verb_of (words_of line))) (spelled_read line read.verb h).1
    ∙ ap (verb_said number) ((lines_say line read.verb).1 h)
    ∙ ap (λ (n : ℕ). said.Line (record { line = n; verb = read.verb })) (sym e)

pub lines_read : (number : ℕ) (line : List ℕ) (read : ScriptLine) → (line_said number line ≡ said.Line read) ↔ ((read.line ≡ number) × Says line read.verb)
lines_read number line read = (λ h. let shown = line_shows number line read h in (shown.2, (lines_say line read.verb).0 shown.1), λ h. read_back number line read h.0 h.1)

-- a blank line
blank_line_is : (line : List ℕ) → is_blank line ≡ true → IsBlank line
blank_line_is [] h = inl refl
blank_line_is (b ∷ line) h = inr (line, ap (λ c. c ∷ line) (eqb-true b 59 h))

is_passed : (line : List ℕ) → IsBlank line → is_blank line ≡ true
is_passed line (inl e) = ap is_blank e
is_passed line (inr h) = ap is_blank h.1

passed : (t : Bool) (number : ℕ) (o : Option Verb) → (if t then said.Nothing else verb_said number o) ≡ said.Nothing → t ≡ true
passed true number o h = refl
passed false number None h = absurd (cc h)
passed false number (Some v) h = absurd (cc h)

blank_read : (number : ℕ) (line : List ℕ) → line_said number line ≡ said.Nothing → IsBlank line
unfolding line_said
blank_read number line h = blank_line_is line (passed (is_blank line) number (verb_of (words_of line)) h)

blank_line_read : (number : ℕ) (line : List ℕ) → IsBlank line → line_said number line ≡ said.Nothing
unfolding line_said
blank_line_read number line h = ap (λ t. if t then said.Nothing else verb_said number (verb_of (words_of line))) (is_passed line h)

pub blanks_read : (number : ℕ) (line : List ℕ) → (line_said number line ≡ said.Nothing) ↔ IsBlank line
blanks_read number line = (blank_read number line, blank_line_read number line)

-- a line outside the grammar
refused : (t : Bool) (number : ℕ) (o : Option Verb) (bad : ℕ) → (if t then said.Nothing else verb_said number o) ≡ said.Bad bad → bad ≡ number
refused true number o bad h = absurd (cc h)
refused false number None bad h = cc h
refused false number (Some v) bad h = absurd (cc h)

bad_number : (number : ℕ) (line : List ℕ) (bad : ℕ) → line_said number line ≡ said.Bad bad → bad ≡ number
unfolding line_said
bad_number number line bad h = refused (is_blank line) number (verb_of (words_of line)) bad h

nothing_or_bad : (bad : ℕ) → said.Nothing ≡ said.Bad bad → ⊥
nothing_or_bad bad h = absurd (cc h)

line_or_bad : (line : ScriptLine) (bad : ℕ) → said.Line line ≡ said.Bad bad → ⊥
line_or_bad line bad h = absurd (cc h)

bad_outside : (number : ℕ) (line : List ℕ) (bad : ℕ) → line_said number line ≡ said.Bad bad → IsOutside line
bad_outside number line bad h =
    (λ blank. nothing_or_bad bad (sym (blank_line_read number line blank) ∙ h), λ v says. line_or_bad (record { line = number; verb = v }) bad (sym (read_back number line (record { line = number; verb = v }) refl says) ∙ h))

outside_is_bad : (number : ℕ) (line : List ℕ) (s : Said) → line_said number line ≡ s → IsOutside line → line_said number line ≡ said.Bad number
outside_is_bad number line (said.Line read) e h = absurd (h.1 read.verb ((lines_read number line read).0 e).1)
outside_is_bad number line said.Nothing e h = absurd (h.0 (blank_read number line e))
outside_is_bad number line (said.Bad bad) e h = e ∙ ap said.Bad (bad_number number line bad e)

pub bad_read : (number : ℕ) (line : List ℕ) (bad : ℕ) → (line_said number line ≡ said.Bad bad) ↔ ((bad ≡ number) × IsOutside line)
bad_read number line bad =
    (λ h. (bad_number number line bad h, bad_outside number line bad h), λ h. outside_is_bad number line (line_said number line) refl h.1 ∙ ap said.Bad (sym h.0))
