use Rattle.dcp_producer.proofs.Releasing.{bytes_taken, bytes_refused}
use Rattle.dcp_producer.proofs.window_laws.bytes_are_acknowledged.Goals as goal

pub returns-clause-taken : goal.returns-clause-taken
returns-clause-taken c = bytes_taken

pub returns-clause-early : goal.returns-clause-early
returns-clause-early c = bytes_refused
