use Rattle.client_session.proofs.Asking.{get_asks, write_asks, durable_asks}
use Rattle.client_session.proofs.laws.requests_ask_for_just_that.Goals as goal

pub returns-clause-get : goal.returns-clause-get
returns-clause-get c = get_asks

pub returns-clause-write : goal.returns-clause-write
returns-clause-write c = write_asks

pub returns-clause-durable : goal.returns-clause-durable
returns-clause-durable c = durable_asks
