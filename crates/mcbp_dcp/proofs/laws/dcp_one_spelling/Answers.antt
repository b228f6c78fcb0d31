use Rattle.mcbp_dcp.proofs.DcpOnce.{once, spelled}
use Rattle.mcbp_dcp.proofs.laws.dcp_one_spelling.Goals as goal

pub returns-clause-frame : goal.returns-clause-frame
returns-clause-frame c = once

pub returns-clause-spelled : goal.returns-clause-spelled
returns-clause-spelled c = spelled
