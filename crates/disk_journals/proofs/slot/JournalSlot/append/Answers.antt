use Rattle.disk_journals.specs.Devices.{device}
use Rattle.disk_journals.proofs.Appends.{append_told}
use Rattle.disk_journals.proofs.slot.JournalSlot.append.Goals as goal

pub returns-clause-ok : goal.returns-clause-ok
returns-clause-ok g c =
    append_told (device g.D.Disk.storage g.D.Disk.crashes g.D.Disk.armed g.D.Disk.left_by) (record { number = c.self.inside.number; journal = c.self.inside.journal; flusher = c.self.inside.flusher }) c.append.new.self c.args.self.now c.args.what.now c.in_ok-came.came c.wrote_by.result c.self.view_is c.wrote_by.ensures
    c.in_ok-came.ensures.ok (record { arm = c.in_ok-came.ensures.arm; stands = c.in_ok-came.ensures.stands; kept_by_each = c.in_ok-came.ensures.kept_by_each })
