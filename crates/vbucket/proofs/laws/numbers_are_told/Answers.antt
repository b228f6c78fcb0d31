use Rattle.vbucket.proofs.Rolling.{counts, in_numbers}
use Rattle.vbucket.proofs.laws.numbers_are_told.Goals as goal

pub returns-clause-exactly : goal.returns-clause-exactly
returns-clause-exactly c = counts

pub returns-clause-rows : goal.returns-clause-rows
returns-clause-rows c = in_numbers
