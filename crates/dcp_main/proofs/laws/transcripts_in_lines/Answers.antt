use Rattle.dcp_main.proofs.Keeping.{lines_told}
use Rattle.dcp_main.proofs.TellLines.{group_told}
use Rattle.dcp_main.proofs.laws.transcripts_in_lines.Goals as goal

pub returns : goal.returns
returns c = record { group = group_told; all = lines_told }
