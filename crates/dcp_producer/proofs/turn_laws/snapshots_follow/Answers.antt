use Rattle.dcp_producer.proofs.Going.{follows_so}
use Rattle.dcp_producer.proofs.turn_laws.snapshots_follow.Goals as goal

pub returns : goal.returns
returns c = follows_so
