use Rattle.vb_journal.proofs.PayloadEnd.{record_end, too_long}
use Rattle.vb_journal.proofs.laws.payloads_end.Goals as goal

pub returns-clause-more : goal.returns-clause-more
returns-clause-more c = λ r byte more f w. record_end byte more r f w

pub returns-clause-longest : goal.returns-clause-longest
returns-clause-longest c = too_long
