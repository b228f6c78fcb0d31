use Rattle.std.proofs.Common.{sym, subst, List, Some}
use Rattle.vb_calls.specs.Flushes.{save_all_job, taken_job}
use Rattle.vb_calls.specs.Jobs.{RanJob}
use Rattle.vb_calls.specs.declared.journals.Flushed.TheVariants as flushed
use Rattle.disk_journals.specs.Asking.{disk_asks}
use Rattle.disk_journals.specs.Seen.{Seen}
use Rattle.disk_journals.proofs.Flushing.{put_nowhere}
use Rattle.disk_journals.specs.Devices.{device}
use Rattle.disk_journals.proofs.journals.DiskJournals.put_all.Goals as goal

pub returns-then-not-put-clause-ok : goal.returns-then-not-put-clause-ok
returns-then-not-put-clause-ok g c =
    let none = c.if-not-put.ensures.none in
    subst (λ (j : List (Seen _)). RanJob g.A.VbAccess.step (disk_asks (device g.D.Disk.storage g.D.Disk.crashes g.D.Disk.armed g.D.Disk.left_by)) (taken_job c.args.v (save_all_job c.args.v) (Some c.args.batch)) c.args.vbs.now c.args.self.now flushed.Closed c.args.vbs.now j) (sym none.1)
    (put_nowhere g.A.VbAccess.step (device g.D.Disk.storage g.D.Disk.crashes g.D.Disk.armed g.D.Disk.left_by) c.args.v c.args.batch c.args.vbs.now c.args.self.now none.0)
