use Rattle.vbucket.proofs.Growing.{grows}
use Rattle.vbucket.proofs.laws.changes_are_told.Goals as goal

pub returns : goal.returns
returns c = grows
