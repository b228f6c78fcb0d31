use Rattle.dcp_consumer.proofs.Reasons.{passed_over}
use Rattle.dcp_consumer.proofs.laws.answers_are_awaited.Goals as goal

pub returns : goal.returns
returns c = passed_over
