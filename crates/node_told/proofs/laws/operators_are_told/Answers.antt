use Rattle.node_told.proofs.Disks.{operators}
use Rattle.node_told.proofs.laws.operators_are_told.Goals as goal

pub returns : goal.returns
returns g c = λ mine lists. operators g.A.VbAccess.step g.J.Journals.asks mine lists
