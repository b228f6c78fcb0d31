use Rattle.dcp_main.proofs.Endings.{tells_made, tells_run, tells_storm, tells_usage}
use Rattle.dcp_main.proofs.laws.exits_in_numbers.Goals as goal

pub returns-clause-run : goal.returns-clause-run
returns-clause-run c = tells_run

pub returns-clause-usage : goal.returns-clause-usage
returns-clause-usage c = tells_usage

pub returns-clause-made : goal.returns-clause-made
returns-clause-made c = tells_made

pub returns-clause-storm : goal.returns-clause-storm
returns-clause-storm c = tells_storm
