use Rattle.transcript_law.proofs.rows.Fitted.{sets_ask}
use Rattle.transcript_law.proofs.lawful.set_lines_ask.Goals as goal

pub returns : goal.returns
returns c = sets_ask
