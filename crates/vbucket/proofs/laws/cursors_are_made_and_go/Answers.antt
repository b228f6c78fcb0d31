use Rattle.vbucket.proofs.Cursoring.{cursors}
use Rattle.vbucket.proofs.laws.cursors_are_made_and_go.Goals as goal

pub returns : goal.returns
returns c = cursors
