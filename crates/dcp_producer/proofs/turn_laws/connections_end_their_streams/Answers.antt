use Rattle.dcp_producer.proofs.Endings.{closes_alive}
use Rattle.dcp_producer.proofs.turn_laws.connections_end_their_streams.Goals as goal

pub returns-clause-closes : goal.returns-clause-closes
returns-clause-closes c = closes_alive
