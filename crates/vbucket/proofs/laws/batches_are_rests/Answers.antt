use Rattle.vbucket.proofs.Batching.{all_given, flushes}
use Rattle.vbucket.proofs.laws.batches_are_rests.Goals as goal
use Rattle.vbucket.proofs.Wholes.{wholes}

pub returns-clause-exactly : goal.returns-clause-exactly
returns-clause-exactly c = flushes

pub returns-clause-all : goal.returns-clause-all
returns-clause-all c = all_given

pub returns-clause-whole : goal.returns-clause-whole
returns-clause-whole c = wholes
