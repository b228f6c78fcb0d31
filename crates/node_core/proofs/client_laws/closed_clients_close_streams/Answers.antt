use Rattle.node_core.proofs.ClientLaws.{closes_streams}
use Rattle.node_core.proofs.client_laws.closed_clients_close_streams.Goals as goal

pub returns : goal.returns
returns g c = closes_streams g.A.VbAccess.step
