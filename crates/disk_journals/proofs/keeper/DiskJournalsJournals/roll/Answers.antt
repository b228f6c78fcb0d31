use Rattle.std.proofs.Common.{sym, ◌∙◌}
use Rattle.vb_calls.specs.Flushes.{roll_job}
use Rattle.disk_journals.specs.Asking.{disk_asks}
use Rattle.disk_journals.specs.Devices.{device}
use Rattle.disk_journals.proofs.Rolling.{roll_refused}
use Rattle.disk_journals.proofs.keeper.DiskJournalsJournals.roll.Goals as goal

pub returns-in-Some-clause-ok : goal.returns-in-Some-clause-ok
unfolding roll_job
returns-in-Some-clause-ok g c =
    roll_refused g.A.VbAccess.step (disk_asks (device g.D.Disk.storage g.D.Disk.crashes g.D.Disk.armed g.D.Disk.left_by)) c.args.v c.args.to c.args.vbs.now c.args.self.now
    c.in_ok-call.field-0 c.call.new.self c.in-Some.status (sym c.in-Some.is ∙ c.refusal_by.ensures) c.in_ok-call.ensures.ok
