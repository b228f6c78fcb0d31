use Rattle.vbucket.proofs.GivingUp.{promotions_leave, turns_give_up}
use Rattle.vbucket.proofs.durable_laws.roles_give_up.Goals as goal

pub returns-clause-turns : goal.returns-clause-turns
returns-clause-turns c = turns_give_up

pub returns-clause-leads : goal.returns-clause-leads
returns-clause-leads c = promotions_leave
