use Rattle.disk_journals.proofs.Reopened.{faults_hit}
use Rattle.disk_journals.proofs.laws.faults_are_hits.Goals as goal

pub returns : goal.returns
returns c = faults_hit
