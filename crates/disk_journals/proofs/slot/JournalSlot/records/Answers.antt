use Rattle.std.proofs.lemmas.Result.{on_err_weaker}
use Rattle.disk_journals.specs.Devices.{device}
use Rattle.disk_journals.proofs.Appends.{read_told, unread_slot}
use Rattle.disk_journals.proofs.slot.JournalSlot.records.Goals as goal

pub returns-clause-ok : goal.returns-clause-ok
returns-clause-ok g c =
    read_told (device g.D.Disk.storage g.D.Disk.crashes g.D.Disk.armed g.D.Disk.left_by) (record { number = c.self.inside.number; journal = c.self.inside.journal; flusher = c.self.inside.flusher }) c.records.new.self c.args.self.now c.records.result c.self.view_is c.records.ensures.ok c.records.ensures.arm c.records.ensures.left c.records.ensures.given

pub returns-clause-err : goal.returns-clause-err
returns-clause-err g c =
    on_err_weaker c.records.result (λ rests. unread_slot (device g.D.Disk.storage g.D.Disk.crashes g.D.Disk.armed g.D.Disk.left_by) (record { number = c.self.inside.number; journal = c.self.inside.journal; flusher = c.self.inside.flusher }) c.records.new.self c.args.self.now c.self.view_is rests c.records.ensures.arm c.records.ensures.left) c.records.ensures.err
