use Rattle.client_session.proofs.Outcomes.{early_deadline, late_deadline}
use Rattle.client_session.proofs.laws.deadlines_in_numbers.Goals as goal

pub returns-clause-early : goal.returns-clause-early
returns-clause-early c = early_deadline

pub returns-clause-late : goal.returns-clause-late
returns-clause-late c = late_deadline
