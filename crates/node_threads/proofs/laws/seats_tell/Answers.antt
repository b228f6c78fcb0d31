use Rattle.node_threads.proofs.Lists.{made_quietly, told}
use Rattle.node_threads.proofs.laws.seats_tell.Goals as goal

pub returns-clause-calls : goal.returns-clause-calls
returns-clause-calls c = told

pub returns-clause-makes : goal.returns-clause-makes
returns-clause-makes c = made_quietly
