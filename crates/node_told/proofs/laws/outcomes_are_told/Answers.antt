use Rattle.node_told.proofs.Conns.{outcomes}
use Rattle.node_told.proofs.laws.outcomes_are_told.Goals as goal

pub returns : goal.returns
returns g c = λ mine lists. outcomes g.A.VbAccess.step mine lists
