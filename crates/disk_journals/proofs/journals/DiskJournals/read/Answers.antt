use Rattle.std.proofs.lemmas.Result.{on_err_weaker}
use Rattle.disk_journals.specs.Devices.{device}
use Rattle.disk_journals.proofs.Asked.{placed_unasked}
use Rattle.disk_journals.proofs.journals.DiskJournals.read.Goals as goal

pub returns-in-Some-clause-err : goal.returns-in-Some-clause-err
returns-in-Some-clause-err g c =
    on_err_weaker c.records.result
    (λ short. placed_unasked (device g.D.Disk.storage g.D.Disk.crashes g.D.Disk.armed g.D.Disk.left_by) c.args.self.now c.self.inside.slots.items c.args.v c.in-Some.at c.index_mut.result.now c.records.new.self
    c.in-Some.ensures.first c.self.view_is c.index_mut.ensures.value c.records.ensures.number short)
    c.records.ensures.err
