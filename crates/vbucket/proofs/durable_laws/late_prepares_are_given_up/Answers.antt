use Rattle.vbucket.proofs.GivingUp.{ticks_exactly}
use Rattle.vbucket.proofs.durable_laws.late_prepares_are_given_up.Goals as goal

pub returns : goal.returns
returns c = ticks_exactly
