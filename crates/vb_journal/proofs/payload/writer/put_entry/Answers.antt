use Rattle.std.proofs.Common.{arith}
use Rattle.vb_journal.proofs.payload.writer.put_entry.Goals as goal

pub returns-clause-fits : goal.returns-clause-fits
returns-clause-fits c = record { uuid = omega arith; seq = omega arith }
