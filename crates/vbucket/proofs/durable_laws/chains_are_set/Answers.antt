use Rattle.vbucket.proofs.GivingUp.{chains_exactly}
use Rattle.vbucket.proofs.durable_laws.chains_are_set.Goals as goal

pub returns : goal.returns
returns c = chains_exactly
