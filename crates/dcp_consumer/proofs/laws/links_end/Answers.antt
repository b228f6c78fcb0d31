use Rattle.dcp_consumer.proofs.Moves.{ends_so, over_so}
use Rattle.dcp_consumer.proofs.laws.links_end.Goals as goal

pub returns : goal.returns
returns c = record { frame = ends_so; over = over_so }
