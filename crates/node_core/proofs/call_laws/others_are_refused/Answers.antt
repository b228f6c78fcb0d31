use Rattle.node_core.proofs.Refusing.{refuses_nobody, refuses_others}
use Rattle.node_core.proofs.call_laws.others_are_refused.Goals as goal

pub returns : goal.returns
returns g c = record { kinds = refuses_others g.A.VbAccess.step; nobody = refuses_nobody _ _ g.A.VbAccess.step g.J.Journals.asks }
