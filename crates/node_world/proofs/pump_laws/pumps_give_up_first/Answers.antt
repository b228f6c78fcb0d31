use Rattle.node_world.proofs.GivesFirst.{gives_first, puts_alone}
use Rattle.node_world.proofs.pump_laws.pumps_give_up_first.Goals as goal

pub returns-clause-first : goal.returns-clause-first
returns-clause-first c = λ w number l frames link producer there made. gives_first w number l frames link producer there made

pub returns-clause-alone : goal.returns-clause-alone
returns-clause-alone c = λ w number l frames link producer there made none. puts_alone w number l frames link producer there made none
