use Rattle.vbucket.proofs.Adopting.{exactly}
use Rattle.vbucket.proofs.laws.logs_are_adopted.Goals as goal

pub returns : goal.returns
returns c = exactly
