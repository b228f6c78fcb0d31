use Rattle.disk_journals.specs.Devices.{device}
use Rattle.disk_journals.proofs.Appends.{saves_slot}
use Rattle.disk_journals.proofs.slot.JournalSlot.save.Goals as goal

pub returns-clause-ok : goal.returns-clause-ok
returns-clause-ok g c =
    saves_slot (device g.D.Disk.storage g.D.Disk.crashes g.D.Disk.armed g.D.Disk.left_by) (record { number = c.self.inside.number; journal = c.self.inside.journal; flusher = c.self.inside.flusher }) c.save.new.journal c.args.self.now c.save.new.self c.in_ok-came.came c.wrote_by.result c.self.view_is c.wrote_by.ensures
    c.in_ok-came.ensures.ok c.in_ok-came.ensures.under
