use Rattle.vbucket.proofs.Turns.{promotions_lead, promotes_exactly}
use Rattle.vbucket.proofs.laws.promotions_lead.Goals as goal

pub returns-clause-leads : goal.returns-clause-leads
returns-clause-leads c = promotions_lead

pub returns-clause-exactly : goal.returns-clause-exactly
returns-clause-exactly c = promotes_exactly
