use Rattle.vbucket.proofs.GivingUp.{acks_exactly}
use Rattle.vbucket.proofs.durable_laws.acknowledgements_are_counted.Goals as goal

pub returns : goal.returns
returns c = acks_exactly
