use Rattle.mcbp_dcp.proofs.DcpBack.{message_back, bytes_back}
use Rattle.mcbp_dcp.proofs.laws.dcp_reads_back.Goals as goal

pub returns-clause-message : goal.returns-clause-message
returns-clause-message c = message_back

pub returns-clause-frame : goal.returns-clause-frame
returns-clause-frame c = bytes_back
