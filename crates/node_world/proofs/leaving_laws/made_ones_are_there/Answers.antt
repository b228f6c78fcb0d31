use Rattle.node_world.proofs.MadeOnes.{makes_anyway}
use Rattle.node_world.proofs.leaving_laws.made_ones_are_there.Goals as goal

pub returns : goal.returns
returns c = λ w n node there up. makes_anyway w n node there up
