use Rattle.transcript_law.proofs.rows.Contrary.{prepare_right, prepare_missing, prepare_moved, prepare_other}
use Rattle.transcript_law.proofs.judged.judged_prepares.Goals as goal

pub returns : goal.returns
returns c = record { right = prepare_right; missing = prepare_missing; seqno = prepare_moved; other = prepare_other }
