use Rattle.vb_journal.proofs.Numbers.{in_numbers}
use Rattle.vb_journal.proofs.journal_laws.journal_in_numbers.Goals as goal

pub returns : goal.returns
returns c = in_numbers
