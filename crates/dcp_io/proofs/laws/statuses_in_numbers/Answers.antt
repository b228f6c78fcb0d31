use Rattle.dcp_io.proofs.Stopping.{codes_differ}
use Rattle.dcp_io.proofs.laws.statuses_in_numbers.Goals as goal

pub returns-clause-distinct : goal.returns-clause-distinct
returns-clause-distinct c = codes_differ
