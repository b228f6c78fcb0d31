use Rattle.vbucket.proofs.Asks.{asks_told, opens_exactly}
use Rattle.vbucket.proofs.laws.requests_are_told.Goals as goal

pub returns-clause-told : goal.returns-clause-told
returns-clause-told c = asks_told

pub returns-clause-exactly : goal.returns-clause-exactly
returns-clause-exactly c = opens_exactly
