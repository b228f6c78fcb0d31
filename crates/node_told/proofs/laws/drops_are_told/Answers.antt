use Rattle.node_told.proofs.Conns.{drops}
use Rattle.node_told.proofs.laws.drops_are_told.Goals as goal

pub returns : goal.returns
returns g c = λ mine lists. drops g.A.VbAccess.step mine lists
