-- the lines of a script are within its grammar's limits
use Rattle.std.proofs.Common.{◌≡◌, ℕ, ◌+◌, List, [], ◌∷◌, ◌++◌, refl, sym, subst}
use Rattle.std.specs.List.{flat_map}
use Rattle.std.proofs.lemmas.List.Elements.{All-nil, All-cons}
use Rattle.script_text.specs.Fitting.{VerbFits, ScriptFits}
use Rattle.script_text.specs.Lines.{lines_of}
use Rattle.script_text.specs.Scripts.{line_said, said_from, verb_line_in, IsScript}
use Rattle.script_text.specs.declared.verb.ScriptLine.{ScriptLine}
use Rattle.script_text.specs.declared.script.Said.{Said}
use Rattle.script_text.specs.declared.script.Said.TheVariants as said
use Rattle.script_text.proofs.Readings.{lines_read}

line_fits : (number : ℕ) (text : List ℕ) (s : Said) (more : List ScriptLine) → line_said number text ≡ s → ScriptFits more → ScriptFits (verb_line_in s ++ more)
line_fits number text (said.Line line) more e h =
    All-cons (λ (line : ScriptLine). VerbFits line.verb) line more ((lines_read number text line).0 e).1.0 h
line_fits number text said.Nothing more e h = h
line_fits number text (said.Bad bad) more e h = h

said_fits : (number : ℕ) (lines : List (List ℕ)) → ScriptFits (flat_map verb_line_in (said_from number lines))
said_fits number [] = All-nil (λ (line : ScriptLine). VerbFits line.verb)
said_fits number (text ∷ lines) =
    line_fits number text (line_said number text) (flat_map verb_line_in (said_from (number + 1) lines)) refl (said_fits (number + 1) lines)

-- a script that was read is within the limits
pub lines_fit : (bytes : List ℕ) (script : List ScriptLine) → IsScript bytes script → ScriptFits script
lines_fit bytes script h = subst ScriptFits (sym h.lines) (said_fits 1 (lines_of bytes))
