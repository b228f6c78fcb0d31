use Rattle.disk_journals.proofs.Numbers.{opens_in_numbers}
use Rattle.disk_journals.proofs.laws.openings_in_numbers.Goals as goal

pub returns : goal.returns
returns c = opens_in_numbers
