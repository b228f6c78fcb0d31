use Rattle.vb_told.proofs.Runs.{jobs}
use Rattle.vb_told.proofs.laws.jobs_are_told.Goals as goal

pub returns : goal.returns
returns g c = λ mine lists. jobs g.A.VbAccess.step mine lists g.J.Journals.asks
