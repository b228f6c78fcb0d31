use Rattle.std.proofs.Common.{◌≡◌, ◌+◌, ◌≤◌, ◌++◌, length, sym, ap, ◌∙◌, subst, arith}
use Rattle.std.specs.List.{All, flat_map}
use Rattle.std.proofs.lemmas.List.Elements.{All-push}
use Rattle.script_text.specs.Lines.{lines_of}
use Rattle.script_text.specs.Scripts.{line_said, said_from, verb_line_in}
use Rattle.script_text.specs.declared.script.Said.TheVariants as said
use Rattle.script_text.specs.declared.verb.ScriptLine.{ScriptLine}
use Rattle.script_text.proofs.Steps.{one_more_line, no_bad_line, line_shows}
use Rattle.script_text.proofs.script.parse.Goals as goal

pub loop-rest-preserved-in_ok-push-in-Line : goal.loop-rest-preserved-in_ok-push-in-Line
loop-rest-preserved-in_ok-push-in-Line c =
    let number = c.loop-rest.line + 1 in
    let text = c.first_line.result.0.now in
    let before = lines_of c.loop-rest.rest.now in
    let more = lines_of c.first_line.result.1.now in
    let line = c.in-Line.said in
    let read : line_said number text ≡ said.Line line = sym c.in_ok-said.ensures ∙ c.in-Line.is in
    let pushed = c.in_ok-push-in-Line.ensures.ok in
    let number_is = (line_shows number text line read).2 in
    let within = (λ (said : ScriptLine). (1 ≤ said.line) × (said.line ≤ length c.args.bytes.now)) in
    let shorter = c.first_line.ensures.shorter in
    record {
      lines =
          c.loop-rest.invariant.lines
          ∙ one_more_line c.loop-rest.script number text before more line c.first_line.ensures.lines read
          ∙ ap (λ script. script ++ flat_map verb_line_in (said_from (number + 1) more)) (sym pushed);
      bad = c.loop-rest.invariant.bad ∙ no_bad_line number text before more line c.first_line.ensures.lines read;
      within = omega (arith, c.loop-rest.invariant.within, shorter);
      numbered =
          subst (λ script. All within script) (sym pushed)
          (All-push within c.loop-rest.script line c.loop-rest.invariant.numbered (omega (arith, number_is), omega (arith, number_is, c.loop-rest.invariant.within, shorter)));
    }
