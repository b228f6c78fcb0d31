use Rattle.vb_turn.proofs.Saying.{histories_say_what_is_legal}
use Rattle.vb_turn.proofs.laws.histories_say_what_is_legal.Goals as goal

pub returns : goal.returns
returns g c = let t = g.M.Machine in histories_say_what_is_legal t.next t.number
