use Rattle.disk_journals.specs.Devices.{device}
use Rattle.disk_journals.proofs.OnTheirWay.{batches_stay}
use Rattle.disk_journals.proofs.laws.batches_stay_on_their_way.Goals as goal

pub returns : goal.returns
returns g c = batches_stay (device g.D.Disk.storage g.D.Disk.crashes g.D.Disk.armed g.D.Disk.left_by)
