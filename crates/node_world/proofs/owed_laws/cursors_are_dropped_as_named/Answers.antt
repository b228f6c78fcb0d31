use Rattle.node_world.proofs.CursorsDropped.{drops_cursor}
use Rattle.node_world.proofs.owed_laws.cursors_are_dropped_as_named.Goals as goal

pub returns : goal.returns
returns c = λ w l link producer there made. drops_cursor w l link producer there made
