use Rattle.node_world.proofs.CallsMade.{calls}
use Rattle.node_world.proofs.owed_laws.lines_are_calls.Goals as goal

pub returns : goal.returns
returns c = λ w n v node vb there up here. calls w n node there up v vb here
