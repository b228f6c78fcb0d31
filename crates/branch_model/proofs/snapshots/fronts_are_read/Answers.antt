use Rattle.branch_model.proofs.Lists.{from_upto, upto_in}
use Rattle.branch_model.proofs.snapshots.fronts_are_read.Goals as goal

pub returns : goal.returns
returns c = λ h n d. (λ i. from_upto d h n i, λ i. upto_in d h n i.0 i.1)
