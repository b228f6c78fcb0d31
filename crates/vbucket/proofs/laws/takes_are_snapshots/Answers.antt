use Rattle.vbucket.proofs.Taking.{take_snapshots}
use Rattle.vbucket.proofs.Ending.{takes_exactly}
use Rattle.vbucket.proofs.laws.takes_are_snapshots.Goals as goal

pub returns-clause-whole : goal.returns-clause-whole
returns-clause-whole c = take_snapshots

pub returns-clause-exactly : goal.returns-clause-exactly
returns-clause-exactly c = takes_exactly
