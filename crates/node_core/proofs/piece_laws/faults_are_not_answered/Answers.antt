use Rattle.node_core.proofs.Pieces.{stops_at_faults}
use Rattle.node_core.proofs.piece_laws.faults_are_not_answered.Goals as goal

pub returns : goal.returns
returns c = stops_at_faults
