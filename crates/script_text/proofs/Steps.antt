-- one more line that is read
use Rattle.std.proofs.Common.{◌≡◌, ℕ, ◌+◌, Bool, true, false, List, [], ◌∷◌, ◌++◌, Option, Some, None, sym, ap, ◌∙◌, append_assoc}
use Rattle.std.specs.Prelude.{if◌then◌else◌, is_some, not}
use Rattle.std.specs.List.{flat_map}
use Rattle.script_text.specs.Lines.{words_of}
use Rattle.script_text.specs.Grammar.{verb_of}
use Rattle.script_text.specs.Scripts.{is_blank, is_outside, verb_said, line_said, said_from, verb_line_in, bad_line_in}
use Rattle.script_text.specs.declared.verb.Verb.{Verb}
use Rattle.script_text.specs.declared.verb.ScriptLine.{ScriptLine}
use Rattle.script_text.specs.declared.script.Said.{Said}
use Rattle.script_text.specs.declared.script.Said.TheVariants as said

pub one_more_line : (script : List ScriptLine) (number : ℕ) (text : List ℕ) (lines more : List (List ℕ)) (line : ScriptLine) → lines ≡ text ∷ more → line_said number text ≡ said.Line line
    → script ++ flat_map verb_line_in (said_from number lines) ≡ (script ++ line ∷ []) ++ flat_map verb_line_in (said_from (number + 1) more)
one_more_line script number text lines more line e h =
    ap (λ ls. script ++ flat_map verb_line_in (said_from number ls)) e
    ∙ ap (λ s. script ++ flat_map verb_line_in (s ∷ said_from (number + 1) more)) h
    ∙ sym (append_assoc script (line ∷ []) (flat_map verb_line_in (said_from (number + 1) more)))

pub no_bad_line : (number : ℕ) (text : List ℕ) (lines more : List (List ℕ)) (line : ScriptLine) → lines ≡ text ∷ more → line_said number text ≡ said.Line line
    → flat_map bad_line_in (said_from number lines) ≡ flat_map bad_line_in (said_from (number + 1) more)
no_bad_line number text lines more line e h =
    ap (λ ls. flat_map bad_line_in (said_from number ls)) e ∙ ap (λ s. flat_map bad_line_in (s ∷ said_from (number + 1) more)) h

-- what a verb's line shows
verb_read : (number : ℕ) (o : Option Verb) (line : ScriptLine) → verb_said number o ≡ said.Line line → (o ≡ Some line.verb) × (line.line ≡ number)
verb_read number None line h = absurd (cc h)
verb_read number (Some v) line h =
    let e : record { line = number; verb = v } ≡ line = cc h in
    (ap (λ (l : ScriptLine). Some l.verb) e, sym (ap (λ (l : ScriptLine). l.line) e))

unblank : (t : Bool) (number : ℕ) (o : Option Verb) (line : ScriptLine) → (if t then said.Nothing else verb_said number o) ≡ said.Line line
    → (t ≡ false) × (o ≡ Some line.verb) × (line.line ≡ number)
unblank true number o line h = absurd (cc h)
unblank false number o line h = let parts = verb_read number o line h in (λ _. false, parts.0, parts.1)

pub line_shows : (number : ℕ) (text : List ℕ) (line : ScriptLine) → line_said number text ≡ said.Line line → (is_blank text ≡ false) × (verb_of (words_of text) ≡ Some line.verb) × (line.line ≡ number)
unfolding line_said
line_shows number text line h = unblank (is_blank text) number (verb_of (words_of text)) line h

-- ---- a line that is outside the grammar, and one that is not

bad_verb : (number : ℕ) (o : Option Verb) (t : Bool) → not (is_some o) ≡ t → bad_line_in (verb_said number o) ≡ (if t then number ∷ [] else [])
bad_verb number None t h = ap (λ t. if t then number ∷ [] else []) h
bad_verb number (Some v) t h = ap (λ t. if t then number ∷ [] else []) h

bad_unblank : (blank : Bool) (number : ℕ) (o : Option Verb) (t : Bool) → (if blank then false else not (is_some o)) ≡ t
    → bad_line_in (if blank then said.Nothing else verb_said number o) ≡ (if t then number ∷ [] else [])
bad_unblank true number o t h = ap (λ t. if t then number ∷ [] else []) h
bad_unblank false number o t h = bad_verb number o t h

bad_here : (number : ℕ) (text : List ℕ) (t : Bool) → is_outside text ≡ t → bad_line_in (line_said number text) ≡ (if t then number ∷ [] else [])
unfolding line_said
bad_here number text t h = bad_unblank (is_blank text) number (verb_of (words_of text)) t h

pub bad_first : (number : ℕ) (text : List ℕ) (lines more : List (List ℕ)) (t : Bool) → lines ≡ text ∷ more → is_outside text ≡ t
    → flat_map bad_line_in (said_from number lines) ≡ (if t then number ∷ [] else []) ++ flat_map bad_line_in (said_from (number + 1) more)
bad_first number text lines more t e h =
    ap (λ ls. flat_map bad_line_in (said_from number ls)) e ∙ ap (λ ns. ns ++ flat_map bad_line_in (said_from (number + 1) more)) (bad_here number text t h)

-- what a line says stands first among the lines that say a verb
pub verb_first : (number : ℕ) (text : List ℕ) (lines more : List (List ℕ)) (s : Said) → lines ≡ text ∷ more → line_said number text ≡ s
    → flat_map verb_line_in (said_from number lines) ≡ verb_line_in s ++ flat_map verb_line_in (said_from (number + 1) more)
verb_first number text lines more s e h =
    ap (λ ls. flat_map verb_line_in (said_from number ls)) e ∙ ap (λ s. verb_line_in s ++ flat_map verb_line_in (said_from (number + 1) more)) h
