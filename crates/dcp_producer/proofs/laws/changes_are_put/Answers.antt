use Rattle.dcp_producer.proofs.Durables.{plain_ones}
use Rattle.dcp_producer.proofs.laws.changes_are_put.Goals as goal

pub returns : goal.returns
returns c a change next = plain_ones a change next
