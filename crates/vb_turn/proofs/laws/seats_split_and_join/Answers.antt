use Rattle.vb_turn.proofs.Learning.{seats_split_and_join}
use Rattle.vb_turn.proofs.laws.seats_split_and_join.Goals as goal

pub returns : goal.returns
returns g c = let t = g.M.Machine in seats_split_and_join t.stands t.next
