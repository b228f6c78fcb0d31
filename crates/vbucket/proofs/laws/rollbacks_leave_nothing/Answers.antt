use Rattle.vbucket.proofs.Rolling.{rolls}
use Rattle.vbucket.proofs.laws.rollbacks_leave_nothing.Goals as goal

pub returns : goal.returns
returns c = rolls
