use Rattle.vb_turn.proofs.Learning.{closings_name_the_history}
use Rattle.vb_turn.proofs.laws.closings_name_the_history.Goals as goal

pub returns : goal.returns
returns g c = let t = g.M.Machine in closings_name_the_history t.stands t.next
