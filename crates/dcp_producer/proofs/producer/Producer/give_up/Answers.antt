use Rattle.dcp_producer.proofs.Persisting.{remains_itself}
use Rattle.dcp_producer.proofs.producer.Producer.give_up.Goals as goal

pub returns-then-self-clause-same : goal.returns-then-self-clause-same
returns-then-self-clause-same g c = remains_itself c.args.self.now.plain
