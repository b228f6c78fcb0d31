use Rattle.std.proofs.Common.{inl, refl}
use Rattle.cluster_model.proofs.sound.active_node.Goals as goal
use Rattle.cluster_model.proofs.Runs.{continues, rolls, forks_below, forks_stay}

pub returns-clause-front : goal.returns-clause-front
returns-clause-front c = λ w top k s a. (s.leads k a).front

pub returns-clause-alone : goal.returns-clause-alone
returns-clause-alone c = λ w top j k s a b e. s.alone j k (w.nodes k).br (inl (a, e)) (inl (b, refl))

pub returns-clause-forks : goal.returns-clause-forks
returns-clause-forks c = λ w b top k s a i e. forks_below top w s k b a i e

pub returns-clause-settled : goal.returns-clause-settled
returns-clause-settled c = λ w b top u s i e. forks_stay top w s u b i e

pub returns-clause-continues : goal.returns-clause-continues
returns-clause-continues c = λ w ask top k s a l e. continues top w s k ask a l e

pub returns-clause-rolls : goal.returns-clause-rolls
returns-clause-rolls c = λ w ask top k r s a l e. rolls top w s k ask r a l e
