-- a script is read, or it has a first bad line
use Rattle.std.proofs.Common.{◌≡◌, ℕ, ◌+◌, List, [], ◌∷◌, ◌++◌, length, Some, refl, ap, sym, ◌∙◌, inl, inr, ◌⊎◌, arith}
use Rattle.std.specs.List.{flat_map, slice_get, All}
use Rattle.std.proofs.lemmas.List.Elements.{All-cons, All-nil}
use Rattle.script_text.specs.Lines.{lines_of}
use Rattle.script_text.specs.Sayings.{IsOutside, StandsFirstBad}
use Rattle.script_text.specs.Scripts.{line_said, said_from, bad_line_in, verb_lines, bad_lines, IsScript, FirstBad}
use Rattle.script_text.specs.declared.verb.ScriptLine.{ScriptLine}
use Rattle.script_text.specs.declared.script.Said.{Said}
use Rattle.script_text.specs.declared.script.Said.TheVariants as said
use Rattle.script_text.proofs.Readings.{bad_read}

by_bad : (bytes : List ℕ) (bad : List ℕ) → bad_lines bytes ≡ bad → ((script : List ScriptLine) × IsScript bytes script) ⊎ ((line : ℕ) × FirstBad bytes line)
by_bad bytes [] e = inl (verb_lines bytes, record { none_bad = e; lines = refl })
by_bad bytes (line ∷ later) e = inr (line, ap (λ bad. slice_get bad 0) e)

pub one_holds : (bytes : List ℕ) → ((script : List ScriptLine) × IsScript bytes script) ⊎ ((line : ℕ) × FirstBad bytes line)
one_holds bytes = by_bad bytes (bad_lines bytes) refl

-- where the first bad line of lines stands that are numbered from this number
record StandsFrom (number : ℕ) (lines : List (List ℕ)) (line : ℕ) : Type 0 where
  front : List (List ℕ)
  bad : List ℕ
  rest : List (List ℕ)
  stands : lines ≡ front ++ bad ∷ rest
  number_is : line ≡ number + length front
  outside : IsOutside bad
  before : All (λ line. ¬ IsOutside line) front

in_front : (number : ℕ) (text : List ℕ) (lines : List (List ℕ)) (line : ℕ) → ¬ IsOutside text → StandsFrom (number + 1) lines line → StandsFrom number (text ∷ lines) line
in_front number text lines line fine h =
    let number_is = h.number_is in
    record {
      front = text ∷ h.front;
      bad = h.bad;
      rest = h.rest;
      stands = ap (λ more. text ∷ more) h.stands;
      number_is = omega (arith, number_is);
      outside = h.outside;
      before = All-cons (λ line. ¬ IsOutside line) text h.front fine h.before;
    }

line_no_bad : (number : ℕ) (line : ScriptLine) → said.Line line ≡ said.Bad number → ⊥
line_no_bad number line h = absurd (cc h)

nothing_no_bad : (number : ℕ) → said.Nothing ≡ said.Bad number → ⊥
nothing_no_bad number h = absurd (cc h)

by_first : (number : ℕ) (text : List ℕ) (lines : List (List ℕ)) (line : ℕ) (s : Said) (more : List ℕ) → line_said number text ≡ s
    → (slice_get more 0 ≡ Some line → StandsFrom (number + 1) lines line) → slice_get (bad_line_in s ++ more) 0 ≡ Some line → StandsFrom number (text ∷ lines) line
by_first number text lines line (said.Line read) more e rest h =
    in_front number text lines line (λ outside. line_no_bad number read (sym e ∙ (bad_read number text number).1 (refl, outside))) (rest h)
by_first number text lines line said.Nothing more e rest h =
    in_front number text lines line (λ outside. nothing_no_bad number (sym e ∙ (bad_read number text number).1 (refl, outside))) (rest h)
by_first number text lines line (said.Bad bad) more e rest h =
    let shown = (bad_read number text bad).0 e in
    let same : bad ≡ line = cc h in
    let at = shown.0 in
    record {
      front = [];
      bad = text;
      rest = lines;
      stands = refl;
      number_is = omega (arith, same, at);
      outside = shown.1;
      before = All-nil (λ line. ¬ IsOutside line);
    }

first_from : (number : ℕ) (lines : List (List ℕ)) (line : ℕ) → slice_get (flat_map bad_line_in (said_from number lines)) 0 ≡ Some line → StandsFrom number lines line
first_from number [] line h = absurd (cc h)
first_from number (text ∷ lines) line h =
    by_first number text lines line (line_said number text) (flat_map bad_line_in (said_from (number + 1) lines)) refl (first_from (number + 1) lines line) h

pub first_stands : (bytes : List ℕ) (line : ℕ) → FirstBad bytes line → StandsFirstBad (lines_of bytes) line
first_stands bytes line h =
    let r = first_from 1 (lines_of bytes) line h in
    let number_is = r.number_is in
    record { front = r.front; bad = r.bad; rest = r.rest; stands = r.stands; number_is = omega (arith, number_is); outside = r.outside; before = r.before }
