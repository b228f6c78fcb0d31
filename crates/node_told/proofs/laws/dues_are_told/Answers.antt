use Rattle.node_told.proofs.Settles.{dues}
use Rattle.node_told.proofs.laws.dues_are_told.Goals as goal

pub returns : goal.returns
returns g c = λ mine lists. dues g.A.VbAccess.step mine lists
