use Rattle.vb_turn.proofs.Learning.{turns_are_legal}
use Rattle.vb_turn.proofs.laws.turns_are_legal.Goals as goal

pub returns : goal.returns
returns g c = let t = g.M.Machine in turns_are_legal t.stands t.next t.number
