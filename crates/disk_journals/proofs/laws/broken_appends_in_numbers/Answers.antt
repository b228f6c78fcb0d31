use Rattle.disk_journals.proofs.Numbers.{broken_in_numbers, left_in_numbers}
use Rattle.disk_journals.proofs.laws.broken_appends_in_numbers.Goals as goal

pub returns-clause-broken : goal.returns-clause-broken
returns-clause-broken c = broken_in_numbers

pub returns-clause-left : goal.returns-clause-left
returns-clause-left c = left_in_numbers
