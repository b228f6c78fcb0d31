use Rattle.dcp_consumer.proofs.Storing.{sets, removes, unset, keyless, state, typed_come}
use Rattle.dcp_consumer.proofs.laws.changes_are_taken.Goals as goal

pub returns-clause-stored : goal.returns-clause-stored
returns-clause-stored c = sets

pub returns-clause-removed : goal.returns-clause-removed
returns-clause-removed c = removes

pub returns-clause-unfit : goal.returns-clause-unfit
returns-clause-unfit c = unset

pub returns-clause-keyless : goal.returns-clause-keyless
returns-clause-keyless c = keyless

pub returns-clause-state : goal.returns-clause-state
returns-clause-state c = state

pub returns-clause-typed : goal.returns-clause-typed
returns-clause-typed c = typed_come
