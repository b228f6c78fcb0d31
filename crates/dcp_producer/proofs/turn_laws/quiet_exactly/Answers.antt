use Rattle.dcp_producer.proofs.Ends.{quiet_so}
use Rattle.dcp_producer.proofs.turn_laws.quiet_exactly.Goals as goal

pub returns : goal.returns
returns c = quiet_so
