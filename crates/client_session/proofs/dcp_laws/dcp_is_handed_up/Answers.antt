use Rattle.client_session.proofs.Handing.{handed_up, dropped_here, others_answered, first_handed, bytes_fewer, bytes_ours, outcome_ours}
use Rattle.client_session.proofs.Own.{read_own}
use Rattle.client_session.proofs.dcp_laws.dcp_is_handed_up.Goals as goal

pub returns-clause-first : goal.returns-clause-first
returns-clause-first c = first_handed

pub returns-clause-turn : goal.returns-clause-turn
returns-clause-turn c = handed_up

pub returns-clause-others : goal.returns-clause-others
returns-clause-others c = others_answered

pub returns-clause-only : goal.returns-clause-only
returns-clause-only c = bytes_ours

pub returns-clause-behind : goal.returns-clause-behind
returns-clause-behind c = outcome_ours

pub returns-clause-dropped : goal.returns-clause-dropped
returns-clause-dropped c = dropped_here

pub returns-clause-commands : goal.returns-clause-commands
returns-clause-commands c = read_own

pub returns-clause-fewer : goal.returns-clause-fewer
returns-clause-fewer c = bytes_fewer
