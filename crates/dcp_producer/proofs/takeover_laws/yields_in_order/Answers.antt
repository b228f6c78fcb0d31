use Rattle.dcp_producer.proofs.Giving.{none_given_up, yields_in_turn}
use Rattle.dcp_producer.proofs.takeover_laws.yields_in_order.Goals as goal

pub returns-clause-none : goal.returns-clause-none
returns-clause-none c = none_given_up

pub returns-clause-asked : goal.returns-clause-asked
returns-clause-asked c frames end made came some free told = yields_in_turn frames end made came some free told
