use Rattle.dcp_producer.proofs.Pulling.{why_in_order}
use Rattle.dcp_producer.proofs.takeover_laws.waits_in_order.Goals as goal

pub returns : goal.returns
returns c frames s left made halted sound told = why_in_order s frames made left halted sound told
