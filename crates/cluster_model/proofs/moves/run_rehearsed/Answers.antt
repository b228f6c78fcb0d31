use Rattle.cluster_model.proofs.moves.run_rehearsed.Goals as goal
use Rattle.cluster_model.proofs.Rehearsals.{may_early, may_later, new_branch, may_last, last_branch, may_back, reach_open, may_handed, handed_branch}

pub returns-clause-early : goal.returns-clause-early
returns-clause-early c = may_early

pub returns-clause-later : goal.returns-clause-later
returns-clause-later c = may_later

pub returns-clause-branch : goal.returns-clause-branch
returns-clause-branch c = new_branch

pub returns-clause-last : goal.returns-clause-last
returns-clause-last c = may_last

pub returns-clause-again : goal.returns-clause-again
returns-clause-again c = last_branch

pub returns-clause-handed : goal.returns-clause-handed
returns-clause-handed c = may_handed

pub returns-clause-taken_over : goal.returns-clause-taken_over
returns-clause-taken_over c = handed_branch

pub returns-clause-back : goal.returns-clause-back
returns-clause-back c = may_back

pub returns-clause-beyond : goal.returns-clause-beyond
returns-clause-beyond c = reach_open
