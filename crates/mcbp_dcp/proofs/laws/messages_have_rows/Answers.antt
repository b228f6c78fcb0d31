use Rattle.mcbp_dcp.proofs.Read.{rows}
use Rattle.mcbp_dcp.proofs.laws.messages_have_rows.Goals as goal

pub returns : goal.returns
returns c = rows
