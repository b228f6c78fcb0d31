use Rattle.std.proofs.Common.{sym, ◌∙◌}
use Rattle.script_text.proofs.Cuts.{parts_first, parts_none}
use Rattle.script_text.proofs.sent.first_word.Goals as goal

pub returns-in-Some : goal.returns-in-Some
returns-in-Some c = (parts_first 32 c.args.text.now c.in-Some.end (sym c.space.ensures ∙ c.in-Some.is)).0

pub returns-in-None : goal.returns-in-None
returns-in-None c = parts_none 32 c.args.text.now (sym c.space.ensures ∙ c.in-None.is)
