use Rattle.checkpoint.proofs.Exactly.{above_exactly}
use Rattle.checkpoint.proofs.laws.places_are_read.Goals as goal

pub returns : goal.returns
returns c = above_exactly
