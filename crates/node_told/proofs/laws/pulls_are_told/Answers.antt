use Rattle.node_told.proofs.Disks.{pulls}
use Rattle.node_told.proofs.laws.pulls_are_told.Goals as goal

pub returns : goal.returns
returns g c = λ mine lists. pulls g.A.VbAccess.step g.J.Journals.asks mine lists
