use Rattle.vbucket.proofs.Closing.{closes, places}
use Rattle.vbucket.proofs.laws.streams_are_closed.Goals as goal

pub returns-clause-closes : goal.returns-clause-closes
returns-clause-closes c = closes

pub returns-clause-places : goal.returns-clause-places
returns-clause-places c = places
