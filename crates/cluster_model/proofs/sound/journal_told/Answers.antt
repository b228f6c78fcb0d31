use Rattle.cluster_model.proofs.sound.journal_told.Goals as goal
use Rattle.cluster_model.proofs.Runs.{point_shown, load_shown}

pub returns-clause-points : goal.returns-clause-points
returns-clause-points c = λ w top k p s i. point_shown top w s k p i

pub returns-clause-crash : goal.returns-clause-crash
returns-clause-crash c = λ w stood top k s. load_shown top w s k stood
