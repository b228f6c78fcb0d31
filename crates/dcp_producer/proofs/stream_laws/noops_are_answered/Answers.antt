use Rattle.dcp_producer.proofs.Closing.{noop_open, noop_early}
use Rattle.dcp_producer.proofs.stream_laws.noops_are_answered.Goals as goal

pub returns-clause-opened : goal.returns-clause-opened
returns-clause-opened c = noop_open

pub returns-clause-early : goal.returns-clause-early
returns-clause-early c = noop_early
