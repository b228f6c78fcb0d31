use Rattle.client_session.proofs.Outcomes.{outcome_settles, other_settles}
use Rattle.client_session.proofs.laws.outcomes_are_told.Goals as goal

pub returns-clause-mine : goal.returns-clause-mine
returns-clause-mine c = outcome_settles

pub returns-clause-others : goal.returns-clause-others
returns-clause-others c = other_settles
