use Rattle.disk_journals.specs.Devices.{device}
use Rattle.disk_journals.proofs.Closing.{closes_once}
use Rattle.disk_journals.proofs.laws.journals_close_once.Goals as goal

pub returns : goal.returns
returns g c = closes_once (device g.D.Disk.storage g.D.Disk.crashes g.D.Disk.armed g.D.Disk.left_by)
