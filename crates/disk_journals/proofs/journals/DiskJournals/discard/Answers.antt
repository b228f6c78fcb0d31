use Rattle.std.proofs.Common.{refl}
use Rattle.flusher.specs.declared.flusher.Flusher.TheVariants as flusher
use Rattle.vb_calls.specs.Shelves.{Idle}
use Rattle.disk_journals.specs.Devices.{device}
use Rattle.disk_journals.proofs.Asked.{placed_keeps}
use Rattle.disk_journals.proofs.journals.DiskJournals.discard.Goals as goal

pub returns-in-Some : goal.returns-in-Some
returns-in-Some g c =
    placed_keeps (device g.D.Disk.storage g.D.Disk.crashes g.D.Disk.armed g.D.Disk.left_by) c.args.self.now c.self.inside.slots.items c.args.v c.in-Some.at c.index_mut.result.now c.discard.new.self Idle flusher.Idle
    c.in-Some.ensures.first c.self.view_is c.index_mut.ensures.value refl c.discard.ensures
