use Rattle.transcript_law.proofs.rows.TakenRows.{first_mark, second_mark}
use Rattle.transcript_law.proofs.untold.judged_next_markers.Goals as goal

pub returns : goal.returns
returns c = record { first = first_mark; second = second_mark }
