use Rattle.std.proofs.Common.{◌≡◌, ap, ◌∙◌, subst, reverse, ℕ, List}
use Rattle.std.specs.Prelude.{IfOk, OnErr}
use Rattle.branch_model.specs.Journals.{roll_point}
use Rattle.vb_calls.specs.Flushes.{note_roll_job}
use Rattle.vb_calls.specs.Jobs.{RanJob, BeganJob}
use Rattle.vb_types.specs.declared.journal.Record.{Record}
use Rattle.disk_journals.specs.Asking.{disk_asks}
use Rattle.disk_journals.specs.Devices.{device}
use Rattle.disk_journals.proofs.journals.DiskJournals.roll_by.Goals as goal

pub returns-clause-ok : goal.returns-clause-ok
returns-clause-ok g c =
    let asks = disk_asks (device g.D.Disk.storage g.D.Disk.crashes g.D.Disk.armed g.D.Disk.left_by) in
    let to_is : c.roll_point-to.result ≡ roll_point (reverse c.args.records.now) c.args.to =
    c.roll_point-to.ensures ∙ ap (λ (records : List Record). roll_point (reverse records) c.args.to) c.as_slice-records.ensures in
    subst (λ (n : ℕ). IfOk c.roll_to.result (λ came. RanJob g.A.VbAccess.step asks (note_roll_job c.args.v (reverse c.args.records.now) n) c.args.vbs.now c.args.self.now came c.roll_to.new.vbs c.roll_to.new.self)) to_is
    (subst (λ (records : List Record). IfOk c.roll_to.result (λ came. RanJob g.A.VbAccess.step asks (note_roll_job c.args.v (reverse records) c.roll_point-to.result) c.args.vbs.now c.args.self.now came c.roll_to.new.vbs c.roll_to.new.self)) c.as_slice-records.ensures c.roll_to.ensures.ok)

pub returns-clause-err : goal.returns-clause-err
returns-clause-err g c =
    let asks = disk_asks (device g.D.Disk.storage g.D.Disk.crashes g.D.Disk.armed g.D.Disk.left_by) in
    let to_is : c.roll_point-to.result ≡ roll_point (reverse c.args.records.now) c.args.to =
    c.roll_point-to.ensures ∙ ap (λ (records : List Record). roll_point (reverse records) c.args.to) c.as_slice-records.ensures in
    subst (λ (n : ℕ). OnErr c.roll_to.result (BeganJob g.A.VbAccess.step asks (note_roll_job c.args.v (reverse c.args.records.now) n) c.args.vbs.now c.args.self.now c.roll_to.new.vbs c.roll_to.new.self)) to_is
    (subst (λ (records : List Record). OnErr c.roll_to.result (BeganJob g.A.VbAccess.step asks (note_roll_job c.args.v (reverse records) c.roll_point-to.result) c.args.vbs.now c.args.self.now c.roll_to.new.vbs c.roll_to.new.self)) c.as_slice-records.ensures c.roll_to.ensures.err)
