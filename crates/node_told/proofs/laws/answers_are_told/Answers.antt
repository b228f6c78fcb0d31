use Rattle.node_told.proofs.Conns.{answers}
use Rattle.node_told.proofs.laws.answers_are_told.Goals as goal

pub returns : goal.returns
returns g c = λ mine lists. answers g.A.VbAccess.step mine lists
