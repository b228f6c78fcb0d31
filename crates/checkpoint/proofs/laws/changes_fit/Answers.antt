use Rattle.checkpoint.proofs.Exactly.{fits_exactly, in_numbers}
use Rattle.checkpoint.proofs.laws.changes_fit.Goals as goal

pub returns-clause-fits : goal.returns-clause-fits
returns-clause-fits c = fits_exactly

pub returns-clause-weight : goal.returns-clause-weight
returns-clause-weight c = in_numbers
