use Rattle.vb_turn.proofs.Rows.{right_number, wrong_less, wrong_back, wrong_made_up}
use Rattle.vb_turn.proofs.laws.numbers_in_numbers.Goals as goal

pub returns-clause-right : goal.returns-clause-right
returns-clause-right c = right_number

pub returns-clause-less : goal.returns-clause-less
returns-clause-less c = wrong_less

pub returns-clause-back : goal.returns-clause-back
returns-clause-back c = wrong_back

pub returns-clause-made_up : goal.returns-clause-made_up
returns-clause-made_up c = wrong_made_up
