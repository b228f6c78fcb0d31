use Rattle.client_session.proofs.Rows.{refused_at_once, refusal_told, absent_told, not_served, noop_at_once}
use Rattle.client_session.proofs.laws.refusals_are_told.Goals as goal

pub returns-clause-at_once : goal.returns-clause-at_once
returns-clause-at_once c = refused_at_once

pub returns-clause-by_reply : goal.returns-clause-by_reply
returns-clause-by_reply c = refusal_told

pub returns-clause-absent : goal.returns-clause-absent
returns-clause-absent c = absent_told

pub returns-clause-idle : goal.returns-clause-idle
returns-clause-idle c = not_served

pub returns-clause-noop : goal.returns-clause-noop
returns-clause-noop c = noop_at_once
