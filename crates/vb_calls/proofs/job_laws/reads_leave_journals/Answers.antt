use Rattle.vb_calls.proofs.JournalReads.{leave_journals}
use Rattle.vb_calls.proofs.job_laws.reads_leave_journals.Goals as goal

pub returns : goal.returns
returns g c = leave_journals
