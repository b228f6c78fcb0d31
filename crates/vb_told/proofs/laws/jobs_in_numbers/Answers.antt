use Rattle.vb_told.proofs.Rows.{rows}
use Rattle.vb_told.proofs.laws.jobs_in_numbers.Goals as goal

pub returns : goal.returns
returns c = rows
