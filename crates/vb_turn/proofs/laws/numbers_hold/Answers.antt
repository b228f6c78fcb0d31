use Rattle.vb_turn.proofs.Learning.{numbers_hold}
use Rattle.vb_turn.proofs.laws.numbers_hold.Goals as goal

pub returns : goal.returns
returns g c = let t = g.M.Machine in numbers_hold t.stands t.next t.number
