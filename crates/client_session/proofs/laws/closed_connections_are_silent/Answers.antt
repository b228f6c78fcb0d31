use Rattle.client_session.proofs.Turns.{is_closed}
use Rattle.client_session.proofs.laws.closed_connections_are_silent.Goals as goal

pub returns : goal.returns
returns c = is_closed
