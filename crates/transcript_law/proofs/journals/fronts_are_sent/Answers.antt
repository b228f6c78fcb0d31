use Rattle.transcript_law.proofs.fronts.Marks.{fronts_sent}
use Rattle.transcript_law.proofs.journals.fronts_are_sent.Goals as goal

pub returns : goal.returns
returns c = fronts_sent
