use Rattle.vbucket.proofs.Turns.{roles_end, turns_exactly}
use Rattle.vbucket.proofs.laws.roles_end_streams.Goals as goal

pub returns-clause-ends : goal.returns-clause-ends
returns-clause-ends c = roles_end

pub returns-clause-exactly : goal.returns-clause-exactly
returns-clause-exactly c = turns_exactly
