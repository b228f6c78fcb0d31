use Rattle.transcript_law.proofs.rows.UndoneRows.{all_put, put_before, none_put, half_put, first_put, ended, unended, reached}
use Rattle.transcript_law.proofs.undone.judged_idle_pumps.Goals as goal

pub returns-clause-all_put : goal.returns-clause-all_put
returns-clause-all_put c = all_put

pub returns-clause-put_before : goal.returns-clause-put_before
returns-clause-put_before c = put_before

pub returns-clause-none_put : goal.returns-clause-none_put
returns-clause-none_put c = none_put

pub returns-clause-half_put : goal.returns-clause-half_put
returns-clause-half_put c = half_put

pub returns-clause-first_put : goal.returns-clause-first_put
returns-clause-first_put c = first_put

pub returns-clause-ended : goal.returns-clause-ended
returns-clause-ended c = ended

pub returns-clause-unended : goal.returns-clause-unended
returns-clause-unended c = unended

pub returns-clause-reached : goal.returns-clause-reached
returns-clause-reached c = reached
