use Rattle.vb_turn.proofs.Rows.{right_close, wrong_dropped, wrong_fewer}
use Rattle.vb_turn.proofs.laws.closings_in_numbers.Goals as goal

pub returns-clause-right : goal.returns-clause-right
returns-clause-right c = right_close

pub returns-clause-dropped : goal.returns-clause-dropped
returns-clause-dropped c = wrong_dropped

pub returns-clause-fewer : goal.returns-clause-fewer
returns-clause-fewer c = wrong_fewer
