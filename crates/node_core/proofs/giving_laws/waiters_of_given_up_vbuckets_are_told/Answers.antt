use Rattle.node_core.proofs.GivingWaits.{waiters_told}
use Rattle.node_core.proofs.giving_laws.waiters_of_given_up_vbuckets_are_told.Goals as goal

pub returns : goal.returns
returns c = waiters_told
