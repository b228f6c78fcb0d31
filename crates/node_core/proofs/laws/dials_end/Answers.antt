use Rattle.node_core.proofs.Conduct.{bytes_skipped}
use Rattle.node_core.proofs.laws.dials_end.Goals as goal

pub returns : goal.returns
returns c = bytes_skipped
