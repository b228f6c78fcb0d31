use Rattle.dcp_io.proofs.Listing.{takes_listed, puts_listed, takes_in_row, puts_in_row}
use Rattle.dcp_io.proofs.laws.chosen_calls_fail.Goals as goal

pub returns-clause-takes : goal.returns-clause-takes
returns-clause-takes c = takes_listed

pub returns-clause-puts : goal.returns-clause-puts
returns-clause-puts c = puts_listed

pub returns-clause-takes_in_row : goal.returns-clause-takes_in_row
returns-clause-takes_in_row c = takes_in_row

pub returns-clause-puts_in_row : goal.returns-clause-puts_in_row
returns-clause-puts_in_row c = puts_in_row
