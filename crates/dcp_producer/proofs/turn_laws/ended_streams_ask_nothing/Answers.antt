use Rattle.dcp_producer.proofs.Going.{ended_asks}
use Rattle.dcp_producer.proofs.Silent.{ended_silent}
use Rattle.dcp_producer.proofs.turn_laws.ended_streams_ask_nothing.Goals as goal

pub returns-clause-one : goal.returns-clause-one
returns-clause-one c = ended_asks

pub returns-clause-all : goal.returns-clause-all
returns-clause-all c = λ frames s sound ended. ended_silent frames s ended
