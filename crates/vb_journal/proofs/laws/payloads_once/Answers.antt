use Rattle.vb_journal.proofs.PayloadOnce.{record_once}
use Rattle.vb_journal.proofs.laws.payloads_once.Goals as goal

pub returns-clause-bytes : goal.returns-clause-bytes
returns-clause-bytes c = λ bytes r h e. (record_once bytes r h e).0

pub returns-clause-fits : goal.returns-clause-fits
returns-clause-fits c = λ bytes r h e. (record_once bytes r h e).1

pub returns-clause-writable : goal.returns-clause-writable
returns-clause-writable c = λ bytes r h e. (record_once bytes r h e).2
