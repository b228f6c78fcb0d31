use Rattle.node_told.proofs.Settles.{settles}
use Rattle.node_told.proofs.laws.settles_are_told.Goals as goal

pub returns : goal.returns
returns g c = λ mine lists. settles g.A.VbAccess.step mine lists
