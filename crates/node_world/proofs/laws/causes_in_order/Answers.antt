use Rattle.node_world.proofs.laws.causes_in_order.Goals as goal
use Rattle.node_world.proofs.Causes.{causes}

pub returns : goal.returns
returns c = causes
