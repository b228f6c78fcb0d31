use Rattle.script_text.proofs.Outcomes.{one_holds, first_stands}
use Rattle.script_text.proofs.laws.script_or_bad_line.Goals as goal

pub returns-clause-one : goal.returns-clause-one
returns-clause-one c = one_holds

pub returns-clause-first : goal.returns-clause-first
returns-clause-first c = first_stands
