use Rattle.std.proofs.Common.{◌+◌, false, true, ap, sym, ◌∙◌, arith, rules}
use Rattle.std.specs.Prelude.{◌≡◌}
use Rattle.std.specs.List.{slice_get}
use Rattle.script_text.specs.Lines.{lines_of}
use Rattle.script_text.specs.Scripts.{is_outside}
use Rattle.script_text.proofs.Steps.{bad_first}
use Rattle.script_text.proofs.script.check.Goals as goal

pub loop-rest-preserved : goal.loop-rest-preserved
loop-rest-preserved c =
    let number = c.loop-rest.line + 1 in
    let text = c.first_line.result.0.now in
    let inside : is_outside text ≡ false = search rules in
    record {
      bad = c.loop-rest.invariant.bad ∙ bad_first number text (lines_of c.loop-rest.rest.now) (lines_of c.first_line.result.1.now) false c.first_line.ensures.lines inside;
      within = omega (arith, c.loop-rest.invariant.within, c.first_line.ensures.shorter);
    }

pub returns-then-branch : goal.returns-then-branch
returns-then-branch c =
    let text = c.first_line.result.0.now in
    let outside : is_outside text ≡ true = search rules in
    let first = bad_first (c.loop-rest.line + 1) text (lines_of c.loop-rest.rest.now) (lines_of c.first_line.result.1.now) true c.first_line.ensures.lines outside in
    ap (λ ns. slice_get ns 0) (c.loop-rest.invariant.bad ∙ first)
