use Rattle.dcp_consumer.proofs.Reasons.{reasons_so}
use Rattle.dcp_consumer.proofs.laws.reasons_are_told.Goals as goal

pub returns : goal.returns
returns c = reasons_so
