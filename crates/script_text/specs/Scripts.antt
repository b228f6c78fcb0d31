-- what the lines of a script say
use Rattle.std.specs.Prelude.{◌≡◌, ℕ, ◌+◌, ◌==◌, Bool, true, false, not, if◌then◌else◌, List, [], ◌∷◌, Option, Some, None, is_some}
use Rattle.std.specs.List.{flat_map, slice_get}
use Rattle.script_text.specs.Lines.{lines_of, words_of}
use Rattle.script_text.specs.Grammar.{verb_of}
use Rattle.script_text.specs.declared.verb.Verb.{Verb}
use Rattle.script_text.specs.declared.verb.ScriptLine.{ScriptLine}
use Rattle.script_text.specs.declared.script.Said.{Said}
use Rattle.script_text.specs.declared.script.Said.TheVariants as said

-- a line is empty, or a comment, which begins with a semicolon
abbrev pub is_blank : List ℕ → Bool
is_blank [] = true
is_blank (b ∷ text) = b == 59

-- what the words of the line of this number say
abbrev pub verb_said : ℕ → Option Verb → Said
verb_said number None = said.Bad number
verb_said number (Some v) = said.Line (record { line = number; verb = v })

-- what the line of this number says
unfoldable pub line_said : ℕ → List ℕ → Said
line_said number text = if is_blank text then said.Nothing else verb_said number (verb_of (words_of text))

-- the line is neither blank nor says a verb
abbrev pub is_outside : List ℕ → Bool
is_outside text = if is_blank text then false else not (is_some (verb_of (words_of text)))

-- what each line says, the first of which has this number
abbrev pub said_from : ℕ → List (List ℕ) → List Said
said_from number [] = []
said_from number (line ∷ lines) = line_said number line ∷ said_from (number + 1) lines

-- what each line of a script says
abbrev pub said_of : List ℕ → List Said
said_of bytes = said_from 1 (lines_of bytes)

-- the line, if it says a verb
abbrev pub verb_line_in : Said → List ScriptLine
verb_line_in (said.Line line) = line ∷ []
verb_line_in said.Nothing = []
verb_line_in (said.Bad number) = []

-- the line's number, if it is outside the grammar
abbrev pub bad_line_in : Said → List ℕ
bad_line_in (said.Line line) = []
bad_line_in said.Nothing = []
bad_line_in (said.Bad number) = number ∷ []

-- the lines of a script that say a verb
abbrev pub verb_lines : List ℕ → List ScriptLine
verb_lines bytes = flat_map verb_line_in (said_of bytes)

-- the lines that say a verb, of those behind the line of this number
abbrev pub lines_behind : ℕ → List ℕ → List ScriptLine
lines_behind number bytes = flat_map verb_line_in (said_from (number + 1) (lines_of bytes))

-- the numbers of the lines of a script that are outside the grammar
abbrev pub bad_lines : List ℕ → List ℕ
bad_lines bytes = flat_map bad_line_in (said_of bytes)

-- no line is outside the grammar, and these are the lines that say a verb
pub record IsScript (bytes : List ℕ) (script : List ScriptLine) : Type 0 where
  pub none_bad : bad_lines bytes ≡ []
  pub lines : script ≡ verb_lines bytes

-- the first line that is outside the grammar has this number
abbrev pub FirstBad : List ℕ → ℕ → Type 0
FirstBad bytes line = slice_get (bad_lines bytes) 0 ≡ Some line
