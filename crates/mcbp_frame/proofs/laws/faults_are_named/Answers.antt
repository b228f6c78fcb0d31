use Rattle.mcbp_frame.proofs.Faults.{head_named}
use Rattle.mcbp_frame.proofs.laws.faults_are_named.Goals as goal

pub returns-clause-head : goal.returns-clause-head
returns-clause-head c = head_named
