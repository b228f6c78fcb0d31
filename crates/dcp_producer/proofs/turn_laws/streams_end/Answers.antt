use Rattle.dcp_producer.proofs.Ends.{ends_so}
use Rattle.dcp_producer.proofs.turn_laws.streams_end.Goals as goal

pub returns : goal.returns
returns c = ends_so
