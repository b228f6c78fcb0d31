use Rattle.transcript_law.proofs.rows.JournalRows.{both, first, beyond, no_changes, more, behind, again, rest, rest_more, batch_twice, in_front, undone}
use Rattle.transcript_law.proofs.judged.judged_batches.Goals as goal

pub returns : goal.returns
returns c = record { both = both; first = first; beyond = beyond; nothing = no_changes; more = more; behind = behind; again = again; rest = rest; rest_more = rest_more; twice = batch_twice; in_front = in_front; undone = undone }
