use Rattle.vb_journal.proofs.PayloadBack.{record_back}
use Rattle.vb_journal.proofs.laws.payloads_read_back.Goals as goal

pub returns : goal.returns
returns c = record_back
