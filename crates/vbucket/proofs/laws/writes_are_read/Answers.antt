use Rattle.vbucket.proofs.ReadBack.{are_read}
use Rattle.vbucket.proofs.laws.writes_are_read.Goals as goal

pub returns : goal.returns
returns c = are_read
