use Rattle.disk_journals.specs.Devices.{device}
use Rattle.disk_journals.proofs.Lawful.{fails_shut}
use Rattle.disk_journals.proofs.laws.failed_saves_shut.Goals as goal

pub returns : goal.returns
returns g c = fails_shut (device g.D.Disk.storage g.D.Disk.crashes g.D.Disk.armed g.D.Disk.left_by) g.A.VbAccess.step
