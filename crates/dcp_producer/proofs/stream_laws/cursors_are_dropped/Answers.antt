use Rattle.dcp_producer.proofs.Dropping.{drops_it, drops_none}
use Rattle.dcp_producer.proofs.stream_laws.cursors_are_dropped.Goals as goal

pub returns-clause-one : goal.returns-clause-one
returns-clause-one c v end stream made had there told = drops_it v end made had told stream there

pub returns-clause-none : goal.returns-clause-none
returns-clause-none c v end made had none told = drops_none v end made had told none
