use Rattle.transcript_law.proofs.rows.Rollbacks.{back, elsewhere, unnamed, unasked, twice_back, back_anew}
use Rattle.transcript_law.proofs.judged.judged_rollbacks.Goals as goal

pub returns : goal.returns
returns c = record { back = back; elsewhere = elsewhere; unnamed = unnamed; unasked = unasked; twice = twice_back; anew = back_anew }
