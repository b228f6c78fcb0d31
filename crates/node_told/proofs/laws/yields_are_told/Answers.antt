use Rattle.node_told.proofs.Conns.{yields}
use Rattle.node_told.proofs.laws.yields_are_told.Goals as goal

pub returns : goal.returns
returns g c = λ mine lists. yields g.A.VbAccess.step mine lists
