use Rattle.node_world.proofs.Owed.{acknowledges}
use Rattle.node_world.proofs.owed_laws.dones_acknowledge.Goals as goal
use Rattle.node_world.specs.Owed.{batch_done}

pub returns : goal.returns
returns c = λ w number n v. acknowledges n v (batch_done w n v)
