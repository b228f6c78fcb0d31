use Rattle.vbucket.proofs.Resting.{dues_exactly}
use Rattle.vbucket.proofs.durable_laws.due_numbers_are_told.Goals as goal

pub returns : goal.returns
returns c = dues_exactly
