use Rattle.vbucket.proofs.Receiving.{asks, logs, markers, receives}
use Rattle.vbucket.proofs.laws.messages_are_taken.Goals as goal

pub returns-clause-markers : goal.returns-clause-markers
returns-clause-markers c = markers

pub returns-clause-changes : goal.returns-clause-changes
returns-clause-changes c = receives

pub returns-clause-logs : goal.returns-clause-logs
returns-clause-logs c = logs

pub returns-clause-asks : goal.returns-clause-asks
returns-clause-asks c = asks
