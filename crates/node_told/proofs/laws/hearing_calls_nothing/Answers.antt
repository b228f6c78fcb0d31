use Rattle.node_told.proofs.Conns.{hearing}
use Rattle.node_told.proofs.laws.hearing_calls_nothing.Goals as goal

pub returns : goal.returns
returns g c = λ mine. hearing mine
