use Rattle.std.proofs.Common.{sym, ◌∙◌}
use Rattle.script_text.proofs.Cuts.{parts_first, parts_none}
use Rattle.script_text.proofs.read_transcript.whole_line.Goals as goal

pub returns-in-Some : goal.returns-in-Some
returns-in-Some c = parts_first 10 c.args.bytes.now c.in-Some.end (sym c.newline.ensures ∙ c.in-Some.is)

pub returns-in-None : goal.returns-in-None
returns-in-None c = parts_none 10 c.args.bytes.now (sym c.newline.ensures ∙ c.in-None.is)
