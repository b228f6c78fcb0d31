use Rattle.mcbp_dcp.proofs.DcpLens.{length_dcp}
use Rattle.mcbp_dcp.proofs.laws.dcp_lengths.Goals as goal

pub returns : goal.returns
returns c = length_dcp
