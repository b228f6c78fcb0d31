use Rattle.transcript_law.proofs.rows.UndoneRows.{lost_left, lost_again, first_again}
use Rattle.transcript_law.proofs.undone.judged_lost_batches.Goals as goal

pub returns-clause-again : goal.returns-clause-again
returns-clause-again c = lost_again

pub returns-clause-one_left : goal.returns-clause-one_left
returns-clause-one_left c = lost_left

pub returns-clause-first_again : goal.returns-clause-first_again
returns-clause-first_again c = first_again
