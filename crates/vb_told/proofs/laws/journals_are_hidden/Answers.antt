use Rattle.vb_told.proofs.Runs.{hides}
use Rattle.vb_told.proofs.laws.journals_are_hidden.Goals as goal

pub returns : goal.returns
returns g c = λ lock. hides g.A.VbAccess.step g.J.Journals.asks lock
