use Rattle.node_threads.proofs.Lists.{makes_exactly}
use Rattle.node_threads.proofs.laws.makes_are_exact.Goals as goal

pub returns : goal.returns
returns c = makes_exactly
