use Rattle.journal_points.proofs.laws.rolls_cut.Goals as goal
use Rattle.journal_points.proofs.Sending.{cuts}

pub returns : goal.returns
returns c = λ js to n. cuts js to n
