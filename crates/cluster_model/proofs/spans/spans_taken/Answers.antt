use Rattle.cluster_model.proofs.spans.spans_taken.Goals as goal
use Rattle.cluster_model.proofs.Taking.{taken_remains}

pub returns : goal.returns
returns c = record { remains = λ h ws top low from end r t l d. taken_remains top low from end h ws r t l d }
