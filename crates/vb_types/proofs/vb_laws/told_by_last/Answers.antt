use Rattle.vb_types.proofs.Folds.{docs_by_last, pends_by_last}
use Rattle.vb_types.proofs.vb_laws.told_by_last.Goals as goal

pub returns-clause-docs : goal.returns-clause-docs
returns-clause-docs c = docs_by_last

pub returns-clause-pends : goal.returns-clause-pends
returns-clause-pends c = pends_by_last
