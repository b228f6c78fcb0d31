use Rattle.cluster_model.proofs.sound.node_shown.Goals as goal
use Rattle.cluster_model.proofs.Runs.{shows, named, tells}

pub returns-clause-complete : goal.returns-clause-complete
returns-clause-complete c = λ w top k s e. shows top w s k e

pub returns-clause-named : goal.returns-clause-named
returns-clause-named c = λ w e top k s q. named top w s k e q

pub returns-clause-follows : goal.returns-clause-follows
returns-clause-follows c = λ w top k s. (s.stands k).follows

pub returns-clause-log : goal.returns-clause-log
returns-clause-log c = λ w top k s. tells top w s k
