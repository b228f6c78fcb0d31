use Rattle.node_core.proofs.ClientLaws.{roles_end}
use Rattle.node_core.proofs.client_laws.roles_end_clients_streams.Goals as goal

pub returns : goal.returns
returns c = roles_end
