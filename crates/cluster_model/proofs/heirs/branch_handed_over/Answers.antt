use Rattle.cluster_model.proofs.heirs.branch_handed_over.Goals as goal
use Rattle.cluster_model.proofs.Writers.{writes_by, lost, cut_short}

pub returns-clause-heir : goal.returns-clause-heir
returns-clause-heir c = λ w m top j u s a st x. writes_by top w m s a j u st x

pub returns-clause-cut : goal.returns-clause-cut
returns-clause-cut c = λ w top j k u s m r x. cut_short top w k u s m r j x

pub returns-clause-lost : goal.returns-clause-lost
returns-clause-lost c = λ w ms top j u s m st none x. lost top w ms u s m st none j x
