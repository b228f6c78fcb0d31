use Rattle.dcp_producer.proofs.Closing.{log_early, one_log, two_logged, none_logged}
use Rattle.dcp_producer.proofs.stream_laws.logs_are_answered.Goals as goal

pub returns-clause-early : goal.returns-clause-early
returns-clause-early c = log_early

pub returns-clause-asked : goal.returns-clause-asked
returns-clause-asked c = one_log

pub returns-clause-two : goal.returns-clause-two
returns-clause-two c = two_logged

pub returns-clause-empty : goal.returns-clause-empty
returns-clause-empty c = none_logged
