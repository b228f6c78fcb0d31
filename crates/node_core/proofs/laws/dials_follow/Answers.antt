use Rattle.node_core.proofs.Conduct.{bytes_follow}
use Rattle.node_core.proofs.laws.dials_follow.Goals as goal

pub returns : goal.returns
returns c = bytes_follow
