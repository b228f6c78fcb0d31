use Rattle.dcp_producer.proofs.Giving.{none_dropped, taken_goes}
use Rattle.dcp_producer.proofs.Weighing.{failed_dropped, other_dropped}
use Rattle.dcp_producer.proofs.takeover_laws.answers_of_states.Goals as goal

pub returns-clause-taken : goal.returns-clause-taken
returns-clause-taken c = taken_goes

pub returns-clause-opcode : goal.returns-clause-opcode
returns-clause-opcode c = other_dropped

pub returns-clause-status : goal.returns-clause-status
returns-clause-status c f s is opcode other = failed_dropped f s is other

pub returns-clause-none : goal.returns-clause-none
returns-clause-none c = none_dropped
