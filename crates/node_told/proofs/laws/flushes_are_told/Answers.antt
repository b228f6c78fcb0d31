use Rattle.node_told.proofs.Disks.{flushes}
use Rattle.node_told.proofs.laws.flushes_are_told.Goals as goal

pub returns : goal.returns
returns g c = λ mine lists. flushes g.A.VbAccess.step g.J.Journals.asks mine lists g.A.VbAccess.has
