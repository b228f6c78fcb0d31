use Rattle.transcript_law.proofs.rows.UndoneRows.{both_left, one_left, left_again}
use Rattle.transcript_law.proofs.undone.judged_takes.Goals as goal

pub returns-clause-both_left : goal.returns-clause-both_left
returns-clause-both_left c = both_left

pub returns-clause-one_left : goal.returns-clause-one_left
returns-clause-one_left c = one_left

pub returns-clause-left_again : goal.returns-clause-left_again
returns-clause-left_again c = left_again
