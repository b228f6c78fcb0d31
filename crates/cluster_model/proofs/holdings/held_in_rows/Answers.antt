use Rattle.cluster_model.proofs.holdings.held_in_rows.Goals as goal
use Rattle.cluster_model.proofs.Rehearsals.{enough, same_documents, too_few, another}

pub returns-clause-enough : goal.returns-clause-enough
returns-clause-enough c = enough

pub returns-clause-less : goal.returns-clause-less
returns-clause-less c = (same_documents, too_few)

pub returns-clause-other : goal.returns-clause-other
returns-clause-other c = another
