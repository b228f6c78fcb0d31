use Rattle.vb_told.proofs.Runs.{calls}
use Rattle.vb_told.proofs.laws.calls_are_told.Goals as goal

pub returns : goal.returns
returns g c = λ mine lists. calls g.A.VbAccess.step mine lists
