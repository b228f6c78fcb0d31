use Rattle.journal_points.proofs.laws.sends_whole.Goals as goal
use Rattle.journal_points.proofs.Sending.{sends}

pub returns : goal.returns
returns c = sends
