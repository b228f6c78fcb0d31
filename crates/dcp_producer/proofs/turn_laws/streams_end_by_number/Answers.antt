use Rattle.dcp_producer.proofs.Endings.{ends_named}
use Rattle.dcp_producer.proofs.turn_laws.streams_end_by_number.Goals as goal

pub returns : goal.returns
returns c = ends_named
