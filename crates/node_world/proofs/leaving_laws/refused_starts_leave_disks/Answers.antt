use Rattle.node_world.proofs.StartsRefused.{leaves_disks}
use Rattle.node_world.proofs.leaving_laws.refused_starts_leave_disks.Goals as goal

pub returns : goal.returns
returns c = λ w n node books there off. leaves_disks w n node books there off
