use Rattle.client_session.proofs.Rows.{stored_told}
use Rattle.client_session.proofs.laws.writes_are_told.Goals as goal

pub returns-clause-stored : goal.returns-clause-stored
returns-clause-stored c = stored_told
