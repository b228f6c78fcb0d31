use Rattle.std.proofs.Common.{sym, ap, ◌∙◌, subst, None, refl}
use Rattle.disk_journals.specs.Saving.{SavedAt}
use Rattle.disk_journals.specs.Seen.{stage_of, flush_at}
use Rattle.disk_journals.proofs.Asked.{placed_unasked}
use Rattle.disk_journals.proofs.Places.{flush_none, flush_here}
use Rattle.disk_journals.proofs.Saved.{of_err, rests, unsaved, unsaved_at, saved_at}
use Rattle.disk_journals.specs.Devices.{device}
use Rattle.disk_journals.proofs.journals.DiskJournals.save.Goals as goal

pub returns-in-None-clause-ok : goal.returns-in-None-clause-ok
returns-in-None-clause-ok g c =
    subst (λ f. SavedAt (device g.D.Disk.storage g.D.Disk.crashes g.D.Disk.armed g.D.Disk.left_by) f c.args.self.now c.args.v None c.args.self.now) (sym (flush_none c.args.self.now c.args.v c.in-None.ensures.first)) refl

pub returns-in_ok-save-in-Out-clause-ok : goal.returns-in_ok-save-in-Out-clause-ok
returns-in_ok-save-in-Out-clause-ok g c =
    saved_at (device g.D.Disk.storage g.D.Disk.crashes g.D.Disk.armed g.D.Disk.left_by) c.args.self.now c.self.inside.slots.items c.args.v c.in-Some.at c.in_ok-save-in-Out.field-0 c.index_mut.result.now c.save.new.self c.in-Some.ensures.first c.self.view_is c.index_mut.ensures.value c.save.ensures.number
    c.in_ok-save-in-Out.ensures.ok

pub returns-in-Idle-clause-ok : goal.returns-in-Idle-clause-ok
returns-in-Idle-clause-ok g c =
    let at = c.stage.ensures ∙ ap stage_of (sym (flush_here c.args.self.now c.self.inside.slots.items c.args.v c.in-Some.at c.index.result.now c.in-Some.ensures.first c.self.view_is c.index.ensures)) in
    unsaved (device g.D.Disk.storage g.D.Disk.crashes g.D.Disk.armed g.D.Disk.left_by) (flush_at c.args.self.now c.args.v) c.args.self.now c.args.v (λ out. rests c.stage.result c.in-Idle.is (at ∙ out))

pub returns-in_err-save-in-Out-clause-err : goal.returns-in_err-save-in-Out-clause-err
returns-in_err-save-in-Out-clause-err g c =
    let dev = device g.D.Disk.storage g.D.Disk.crashes g.D.Disk.armed g.D.Disk.left_by in
    let at = c.stage.ensures ∙ ap stage_of (sym (flush_here c.args.self.now c.self.inside.slots.items c.args.v c.in-Some.at c.index.result.now c.in-Some.ensures.first c.self.view_is c.index.ensures)) in
    of_err c.from_residual.result (unsaved_at dev (flush_at c.args.self.now c.args.v) c.args.self.now c.args.v _ (sym at ∙ c.in-Out.is)
    (placed_unasked dev c.args.self.now c.self.inside.slots.items c.args.v c.in-Some.at c.index_mut.result.now c.save.new.self c.in-Some.ensures.first c.self.view_is c.index_mut.ensures.value c.save.ensures.number c.in_err-save-in-Out.ensures.err))
