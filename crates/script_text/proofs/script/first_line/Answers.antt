use Rattle.std.proofs.Common.{sym, ◌∙◌}
use Rattle.script_text.proofs.Lines.{lines_first, lines_only}
use Rattle.script_text.proofs.script.first_line.Goals as goal

pub returns-in-Some-clause-lines : goal.returns-in-Some-clause-lines
returns-in-Some-clause-lines c = lines_first c.args.bytes.now c.in-Some.end (sym c.newline.ensures ∙ c.in-Some.is)

pub returns-in-None-clause-lines : goal.returns-in-None-clause-lines
returns-in-None-clause-lines c = lines_only c.args.bytes.now c.requires (sym c.newline.ensures ∙ c.in-None.is)
