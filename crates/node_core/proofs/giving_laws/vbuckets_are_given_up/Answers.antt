use Rattle.node_core.proofs.GivingLaws.{vbs_are_given_up}
use Rattle.node_core.proofs.giving_laws.vbuckets_are_given_up.Goals as goal

pub returns : goal.returns
returns g c = vbs_are_given_up _ _ g.A.VbAccess.step
