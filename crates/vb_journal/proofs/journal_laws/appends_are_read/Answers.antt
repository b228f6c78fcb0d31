use Rattle.vb_journal.proofs.Noting.{appends_tell}
use Rattle.vb_journal.proofs.journal_laws.appends_are_read.Goals as goal

pub returns : goal.returns
returns c = appends_tell
