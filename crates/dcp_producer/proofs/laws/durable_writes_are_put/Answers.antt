use Rattle.dcp_producer.proofs.Durables.{durables}
use Rattle.dcp_producer.proofs.laws.durable_writes_are_put.Goals as goal

pub returns : goal.returns
returns c a change next = durables a change next
