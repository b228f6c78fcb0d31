use Rattle.std.proofs.Common.{inl, inr, refl, subst}
use Rattle.vb_calls.specs.Shelves.{Append, Stood}
use Rattle.vb_calls.specs.declared.journals.Wrote.{Wrote}
use Rattle.vb_types.specs.declared.journal.Record.TheVariants.{Roll}
use Rattle.disk_journals.specs.Asking.{disk_asks, fate_of_wrote}
use Rattle.disk_journals.proofs.Saved.{err_as}
use Rattle.disk_journals.specs.Devices.{device}
use Rattle.disk_journals.proofs.journals.DiskJournals.roll_to.Goals as goal

pub returns-in-Ok-Stood-clause-err : goal.returns-in-Ok-Stood-clause-err
returns-in-Ok-Stood-clause-err g c =
    let asked =
    subst (λ (w : Wrote). disk_asks (device g.D.Disk.storage g.D.Disk.crashes g.D.Disk.armed g.D.Disk.left_by) c.args.self.now c.args.v (Append (Roll c.args.to)) (fate_of_wrote w) c.note_roll.new.self) c.in-Ok-Stood.field-0-is c.in-Ok-Stood.ensures.ok in
    err_as c.go_back.result (λ same. inr (Stood, c.note_roll.new.self, asked, inr (tt, c.go_back.new.self, c.go_back.ensures.kept, inl (same, refl)))) c.go_back.ensures.err
