use Rattle.std.proofs.Common.{inl, inr, refl}
use Rattle.disk_journals.proofs.Saved.{of_err}
use Rattle.disk_journals.proofs.journals.DiskJournals.note_role.Goals as goal

pub returns-in_err-wrote-clause-err : goal.returns-in_err-wrote-clause-err
returns-in_err-wrote-clause-err g c =
    of_err c.from_residual-in_err-wrote.result (λ reply. inr (c.in_ok-logged.logged, c.call.new.self, c.in_ok-logged.ensures.ok, inl (refl, c.in_err-wrote.ensures.err)))
