use Rattle.vbucket.proofs.Committing.{rests}
use Rattle.vbucket.proofs.Resting.{stays_at_rest}
use Rattle.vbucket.proofs.durable_laws.no_more_is_left_to_commit.Goals as goal

pub returns-clause-stays : goal.returns-clause-stays
returns-clause-stays c = stays_at_rest

pub returns-clause-exactly : goal.returns-clause-exactly
returns-clause-exactly c = rests
