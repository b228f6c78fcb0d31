use Rattle.transcript_law.proofs.rows.Contrary.{role_known_after, log_known_after, branch_known, back_known}
use Rattle.transcript_law.proofs.invariant.Known.{script_known, line_known}
use Rattle.transcript_law.proofs.lawful.lines_are_known.Goals as goal

pub returns : goal.returns
returns c = record { role = role_known_after; adopted = log_known_after; branch = branch_known; rolled = back_known; script = script_known; line = line_known }
