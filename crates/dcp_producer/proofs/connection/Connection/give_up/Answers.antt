use Rattle.dcp_producer.proofs.Persisting.{remains_itself}
use Rattle.dcp_producer.proofs.connection.Connection.give_up.Goals as goal

pub returns-else-frames-gt0-clause-same : goal.returns-else-frames-gt0-clause-same
returns-else-frames-gt0-clause-same g c = remains_itself c.args.self.now.end
