use Rattle.script_text.proofs.ReadLaws.{earlier, here, within}
use Rattle.script_text.proofs.read_laws.bad_lines_break_off.Goals as goal

pub returns-clause-earlier : goal.returns-clause-earlier
returns-clause-earlier c = earlier

pub returns-clause-here : goal.returns-clause-here
returns-clause-here c = here

pub returns-clause-within : goal.returns-clause-within
returns-clause-within c = within
