use Rattle.journal_points.proofs.laws.sends_lasts.Goals as goal
use Rattle.journal_points.proofs.Sending.{sends_last_ones}

pub returns : goal.returns
returns c = sends_last_ones
