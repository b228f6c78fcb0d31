use Rattle.node_world.proofs.WhoAwaits.{goes}
use Rattle.node_world.proofs.laws.outcomes_go_to_who_awaits.Goals as goal

pub returns : goal.returns
returns c = goes
