use Rattle.ckpt_list.proofs.Exactly.{takes_exactly, nothing_exactly}
use Rattle.ckpt_list.proofs.laws.takes_are_exact.Goals as goal

pub returns-clause-some : goal.returns-clause-some
returns-clause-some c = takes_exactly

pub returns-clause-none : goal.returns-clause-none
returns-clause-none c = nothing_exactly
