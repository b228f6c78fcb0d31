use Rattle.transcript_back.proofs.Endings.{tells}
use Rattle.transcript_back.proofs.laws.exits_in_numbers.Goals as goal

pub returns : goal.returns
returns c = tells
