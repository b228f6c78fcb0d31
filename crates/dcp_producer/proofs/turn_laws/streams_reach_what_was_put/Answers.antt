use Rattle.dcp_producer.proofs.Going.{reaches_on}
use Rattle.dcp_producer.proofs.turn_laws.streams_reach_what_was_put.Goals as goal

pub returns : goal.returns
returns c = reaches_on
