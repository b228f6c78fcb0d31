use Rattle.vb_calls.proofs.JournalReads.{in_numbers}
use Rattle.vb_calls.proofs.job_laws.reads_in_numbers.Goals as goal

pub returns : goal.returns
returns c = in_numbers
