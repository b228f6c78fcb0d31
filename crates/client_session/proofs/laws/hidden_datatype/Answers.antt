use Rattle.client_session.proofs.Rows.{found_told}
use Rattle.client_session.proofs.laws.hidden_datatype.Goals as goal

pub returns-clause-found : goal.returns-clause-found
returns-clause-found c = found_told
