use Rattle.dcp_producer.proofs.Durables.{state_bytes_put, state_answer_bytes}
use Rattle.dcp_producer.proofs.Giving.{answer_goes_on}
use Rattle.dcp_producer.proofs.takeover_laws.states_in_bytes.Goals as goal

pub returns-clause-pending : goal.returns-clause-pending
returns-clause-pending c g = (state_bytes_put g).0

pub returns-clause-active : goal.returns-clause-active
returns-clause-active c g = (state_bytes_put g).1

pub returns-clause-answer : goal.returns-clause-answer
returns-clause-answer c = state_answer_bytes

pub returns-clause-heard : goal.returns-clause-heard
returns-clause-heard c = answer_goes_on
