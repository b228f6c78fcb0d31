use Rattle.node_core.proofs.Noting.{roles_are_noted}
use Rattle.node_core.proofs.laws.roles_are_noted.Goals as goal

pub returns : goal.returns
returns g c = λ n v asked new old kept told now left gives ran. roles_are_noted g.A.VbAccess.step g.J.Journals.asks n v asked new old kept told now left gives ran
