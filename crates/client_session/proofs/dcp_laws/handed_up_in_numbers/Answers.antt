use Rattle.client_session.proofs.Numbers.{between, onward, waits, known, later, answer, unknown}
use Rattle.client_session.proofs.dcp_laws.handed_up_in_numbers.Goals as goal

pub returns-clause-between : goal.returns-clause-between
returns-clause-between c = between

pub returns-clause-onward : goal.returns-clause-onward
returns-clause-onward c = onward

pub returns-clause-waits : goal.returns-clause-waits
returns-clause-waits c = waits

pub returns-clause-known : goal.returns-clause-known
returns-clause-known c = known

pub returns-clause-later : goal.returns-clause-later
returns-clause-later c = later

pub returns-clause-answer : goal.returns-clause-answer
returns-clause-answer c = answer

pub returns-clause-unknown : goal.returns-clause-unknown
returns-clause-unknown c = unknown
