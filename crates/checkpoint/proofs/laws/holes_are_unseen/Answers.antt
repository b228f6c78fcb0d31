use Rattle.checkpoint.proofs.Unseen.{seen_exactly, takes_exactly}
use Rattle.checkpoint.proofs.laws.holes_are_unseen.Goals as goal

pub returns-clause-seen : goal.returns-clause-seen
returns-clause-seen c = seen_exactly

pub returns-clause-taken : goal.returns-clause-taken
returns-clause-taken c = takes_exactly
