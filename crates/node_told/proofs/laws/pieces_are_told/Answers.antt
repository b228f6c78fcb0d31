use Rattle.node_told.proofs.Conns.{pieces}
use Rattle.node_told.proofs.laws.pieces_are_told.Goals as goal

pub returns : goal.returns
returns g c = λ mine lists. pieces g.A.VbAccess.step mine lists
