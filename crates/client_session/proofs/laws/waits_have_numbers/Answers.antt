use Rattle.client_session.proofs.Outcomes.{durable_waits, full_told, waiters_apart, bytes_rise, outcome_rises}
use Rattle.client_session.proofs.laws.waits_have_numbers.Goals as goal

pub returns-clause-called : goal.returns-clause-called
returns-clause-called c = durable_waits

pub returns-clause-full : goal.returns-clause-full
returns-clause-full c = full_told

pub returns-clause-differ : goal.returns-clause-differ
returns-clause-differ c = waiters_apart

pub returns-clause-bytes : goal.returns-clause-bytes
returns-clause-bytes c = bytes_rise

pub returns-clause-outcome : goal.returns-clause-outcome
returns-clause-outcome c = outcome_rises
