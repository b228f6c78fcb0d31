use Rattle.vb_journal.proofs.Surviving.{decides}
use Rattle.vb_journal.proofs.journal_laws.the_gate_decides.Goals as goal

pub returns : goal.returns
returns c = decides
