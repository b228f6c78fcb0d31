use Rattle.dcp_producer.proofs.Takeovers.{in_order}
use Rattle.dcp_producer.proofs.takeover_laws.takeovers_in_order.Goals as goal

pub returns : goal.returns
returns c name stream left made next told = in_order name stream left made next told
