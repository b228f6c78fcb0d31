use Rattle.dcp_producer.proofs.ClientAnswers.{answers_once, answers_short}
use Rattle.dcp_producer.proofs.client_laws.clients_resolve_nothing.Goals as goal

pub returns-clause-any : goal.returns-clause-any
returns-clause-any c = answers_once

pub returns-clause-short : goal.returns-clause-short
returns-clause-short c = answers_short
