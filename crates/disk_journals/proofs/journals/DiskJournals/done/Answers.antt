use Rattle.std.proofs.Common.{sym, ap, ◌∙◌}
use Rattle.disk_journals.specs.Saving.{written_in}
use Rattle.disk_journals.proofs.Places.{flush_none, flush_here}
use Rattle.disk_journals.proofs.Saved.{receipt_is, done_keeps}
use Rattle.disk_journals.specs.Devices.{device}
use Rattle.disk_journals.proofs.journals.DiskJournals.done.Goals as goal

pub returns-in-None-clause-receipt : goal.returns-in-None-clause-receipt
returns-in-None-clause-receipt g c = sym (ap written_in (flush_none c.args.self.now c.args.v c.in-None.ensures.first))

pub returns-in-Some-clause-receipt : goal.returns-in-Some-clause-receipt
returns-in-Some-clause-receipt g c =
    c.done.ensures.receipt ∙ receipt_is c.index_mut.result.now.flusher
    ∙ ap written_in (sym (flush_here c.args.self.now c.self.inside.slots.items c.args.v c.in-Some.at c.index_mut.result.now c.in-Some.ensures.first c.self.view_is c.index_mut.ensures.value))

pub returns-in-Some-clause-kept : goal.returns-in-Some-clause-kept
returns-in-Some-clause-kept g c =
    done_keeps (device g.D.Disk.storage g.D.Disk.crashes g.D.Disk.armed g.D.Disk.left_by) c.args.self.now c.self.inside.slots.items c.args.v c.in-Some.at c.index_mut.result.now c.done.new.self c.done.result c.index_mut.result.now.flusher
    c.in-Some.ensures.first c.self.view_is c.index_mut.ensures.value c.done.ensures.receipt c.done.ensures.rest
