use Rattle.dcp_producer.proofs.Apart.{apart_answers, apart_ended}
use Rattle.dcp_producer.proofs.turn_laws.streams_are_apart.Goals as goal

pub returns-clause-answers : goal.returns-clause-answers
returns-clause-answers c f s asks sound = apart_answers f s sound asks

pub returns-clause-roles : goal.returns-clause-roles
returns-clause-roles c = apart_ended
