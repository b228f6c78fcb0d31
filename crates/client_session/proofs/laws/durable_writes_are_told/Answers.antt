use Rattle.client_session.proofs.Outcomes.{durable_awaited, durable_at_once, durable_refused, durable_absent, durable_not_served}
use Rattle.client_session.proofs.laws.durable_writes_are_told.Goals as goal

pub returns-clause-awaited : goal.returns-clause-awaited
returns-clause-awaited c = durable_awaited

pub returns-clause-at_once : goal.returns-clause-at_once
returns-clause-at_once c = durable_at_once

pub returns-clause-refused : goal.returns-clause-refused
returns-clause-refused c = durable_refused

pub returns-clause-absent : goal.returns-clause-absent
returns-clause-absent c = durable_absent

pub returns-clause-idle : goal.returns-clause-idle
returns-clause-idle c = durable_not_served
