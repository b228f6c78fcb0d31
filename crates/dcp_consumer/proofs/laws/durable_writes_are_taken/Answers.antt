use Rattle.dcp_consumer.proofs.Receiving.{prepares, commits, aborts, refuses, acknowledgement, commit_refused, abort_refused}
use Rattle.dcp_consumer.proofs.laws.durable_writes_are_taken.Goals as goal

pub returns-clause-prepare : goal.returns-clause-prepare
returns-clause-prepare c = prepares

pub returns-clause-commit : goal.returns-clause-commit
returns-clause-commit c = commits

pub returns-clause-abort : goal.returns-clause-abort
returns-clause-abort c = aborts

pub returns-clause-unfit : goal.returns-clause-unfit
returns-clause-unfit c = refuses

pub returns-clause-keyless : goal.returns-clause-keyless
returns-clause-keyless c = λ r. (commit_refused r, abort_refused r)

pub returns-clause-acknowledged : goal.returns-clause-acknowledged
returns-clause-acknowledged c = acknowledgement
