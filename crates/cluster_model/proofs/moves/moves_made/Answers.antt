use Rattle.cluster_model.proofs.moves.moves_made.Goals as goal
use Rattle.cluster_model.proofs.Runs.{start_sound, keeps, run_keeps, extends_by}

pub returns-clause-start : goal.returns-clause-start
returns-clause-start c = λ top. start_sound top

pub returns-clause-one : goal.returns-clause-one
returns-clause-one c = λ w m top s a. keeps top w m s a

pub returns-clause-all : goal.returns-clause-all
returns-clause-all c = λ w ms top s a. run_keeps top w ms s a

pub returns-clause-settled : goal.returns-clause-settled
returns-clause-settled c = λ w m top u n s a st. let e = extends_by top w m s a in (e.settled u n st, e.fronts u n st)
