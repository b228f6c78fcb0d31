use Rattle.checkpoint.proofs.Exactly.{puts_exactly}
use Rattle.checkpoint.proofs.laws.puts_replace.Goals as goal

pub returns : goal.returns
returns c = puts_exactly
