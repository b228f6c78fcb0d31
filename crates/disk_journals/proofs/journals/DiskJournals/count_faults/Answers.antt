use Rattle.std.proofs.Common.{sym, ◌∙◌}
use Rattle.disk_journals.specs.Devices.{device}
use Rattle.disk_journals.proofs.Asked.{placed_count, unplaced_count}
use Rattle.disk_journals.proofs.journals.DiskJournals.count_faults.Goals as goal

pub returns-in-None : goal.returns-in-None
returns-in-None g c = sym (unplaced_count (device g.D.Disk.storage g.D.Disk.crashes g.D.Disk.armed g.D.Disk.left_by) c.args.self.now c.args.v c.in-None.ensures.first)

pub returns-in-Some : goal.returns-in-Some
returns-in-Some g c =
    c.faults.ensures
    ∙ sym (placed_count (device g.D.Disk.storage g.D.Disk.crashes g.D.Disk.armed g.D.Disk.left_by) c.args.self.now c.self.inside.slots.items c.args.v c.in-Some.at c.index.result.now c.in-Some.ensures.first c.self.view_is c.index.ensures)
