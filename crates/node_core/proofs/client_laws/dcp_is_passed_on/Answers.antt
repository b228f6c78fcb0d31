use Rattle.node_core.proofs.ClientLaws.{passes_on}
use Rattle.node_core.proofs.client_laws.dcp_is_passed_on.Goals as goal

pub returns : goal.returns
returns c = passes_on
