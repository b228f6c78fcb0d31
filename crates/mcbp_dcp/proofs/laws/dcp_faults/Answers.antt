use Rattle.mcbp_dcp.proofs.DcpFaults.{wrong_extras, wrong_key, wrong_value}
use Rattle.mcbp_dcp.proofs.Metadata.{mutation, deletion}
use Rattle.mcbp_dcp.proofs.laws.dcp_faults.Goals as goal

pub returns-clause-extras : goal.returns-clause-extras
returns-clause-extras c = wrong_extras

pub returns-clause-key : goal.returns-clause-key
returns-clause-key c = wrong_key

pub returns-clause-value : goal.returns-clause-value
returns-clause-value c = wrong_value

pub returns-clause-mutation : goal.returns-clause-mutation
returns-clause-mutation c = mutation

pub returns-clause-deletion : goal.returns-clause-deletion
returns-clause-deletion c = deletion
