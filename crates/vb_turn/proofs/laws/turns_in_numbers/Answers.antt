use Rattle.vb_turn.proofs.Rows.{right_call, right_other, wrong_opening, wrong_nothing, wrong_number}
use Rattle.vb_turn.proofs.laws.turns_in_numbers.Goals as goal

pub returns-clause-right : goal.returns-clause-right
returns-clause-right c = right_call

pub returns-clause-other : goal.returns-clause-other
returns-clause-other c = right_other

pub returns-clause-opening : goal.returns-clause-opening
returns-clause-opening c = wrong_opening

pub returns-clause-nothing : goal.returns-clause-nothing
returns-clause-nothing c = wrong_nothing

pub returns-clause-unshown : goal.returns-clause-unshown
returns-clause-unshown c = wrong_number
