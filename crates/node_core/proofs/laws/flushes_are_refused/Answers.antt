use Rattle.node_core.proofs.Noting.{flushes_are_refused}
use Rattle.node_core.proofs.laws.flushes_are_refused.Goals as goal

pub returns : goal.returns
returns g c = λ n v part old kept told now left ran. flushes_are_refused g.A.VbAccess.step g.J.Journals.asks n v part (g.A.VbAccess.has old v) old kept told now left ran
