use Rattle.vb_disk.proofs.Arms.{fires_once}
use Rattle.vb_disk.proofs.laws.arms_fire_once.Goals as goal

pub returns : goal.returns
returns c = fires_once
