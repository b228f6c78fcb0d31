use Rattle.vb_told.proofs.Runs.{first_calls}
use Rattle.vb_told.proofs.laws.first_calls_are_told.Goals as goal

pub returns : goal.returns
returns g c = λ mine lists. first_calls g.A.VbAccess.step mine lists
