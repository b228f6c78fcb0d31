use Rattle.mcbp_frame.proofs.Stable.{stable}
use Rattle.mcbp_frame.proofs.Cases.{no_prefix}
use Rattle.mcbp_frame.proofs.laws.stands.Goals as goal

pub returns-clause-same : goal.returns-clause-same
returns-clause-same c = stable

pub returns-clause-no_prefix : goal.returns-clause-no_prefix
returns-clause-no_prefix c = no_prefix
