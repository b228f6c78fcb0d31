use Rattle.node_world.proofs.FramesUp.{passes_faults}
use Rattle.node_world.proofs.leaving_laws.faults_are_passed.Goals as goal

pub returns : goal.returns
returns c = λ w l link producer add_link from. passes_faults w l link producer add_link from
