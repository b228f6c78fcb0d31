use Rattle.node_world.proofs.Clocked.{clocked}
use Rattle.node_world.proofs.owed_laws.writes_are_clocked.Goals as goal

pub returns : goal.returns
returns c = λ w n k node session bytes f vb there up open_one one here. clocked w n k node there up session open_one bytes f one vb here
