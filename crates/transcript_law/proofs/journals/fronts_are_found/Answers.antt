use Rattle.transcript_law.proofs.fronts.Found.{script_found}
use Rattle.transcript_law.proofs.journals.fronts_are_found.Goals as goal

pub returns : goal.returns
returns c = λ script fits. script_found script fits
