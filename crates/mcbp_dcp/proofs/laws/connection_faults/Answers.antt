use Rattle.mcbp_dcp.proofs.ConnectionFaults.{close, ask, noop, acknowledged, closed, nooped, log, state, stated, unanswered}
use Rattle.mcbp_dcp.proofs.laws.connection_faults.Goals as goal

pub returns-clause-close : goal.returns-clause-close
returns-clause-close c = close

pub returns-clause-ask : goal.returns-clause-ask
returns-clause-ask c = ask

pub returns-clause-noop : goal.returns-clause-noop
returns-clause-noop c = noop

pub returns-clause-acknowledged : goal.returns-clause-acknowledged
returns-clause-acknowledged c = acknowledged

pub returns-clause-closed : goal.returns-clause-closed
returns-clause-closed c = closed

pub returns-clause-nooped : goal.returns-clause-nooped
returns-clause-nooped c = nooped

pub returns-clause-log : goal.returns-clause-log
returns-clause-log c = log

pub returns-clause-unanswered : goal.returns-clause-unanswered
returns-clause-unanswered c = unanswered

pub returns-clause-state : goal.returns-clause-state
returns-clause-state c = state

pub returns-clause-stated : goal.returns-clause-stated
returns-clause-stated c = stated
