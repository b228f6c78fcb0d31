use Rattle.transcript_law.proofs.fronts.Groups.{fronts_stay as stay}
use Rattle.transcript_law.proofs.journals.fronts_stay.Goals as goal

pub returns : goal.returns
returns c = stay
