use Rattle.node_told.proofs.Disks.{dials}
use Rattle.node_told.proofs.laws.dials_are_told.Goals as goal

pub returns : goal.returns
returns g c = λ mine lists. dials g.A.VbAccess.step g.J.Journals.asks mine lists
