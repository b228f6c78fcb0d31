use Rattle.node_world.proofs.BytesMoved.{moves}
use Rattle.node_world.proofs.owed_laws.bytes_move_as_asked.Goals as goal

pub returns : goal.returns
returns c = λ w l link producer node add_link from there. moves w l link producer node add_link from there
