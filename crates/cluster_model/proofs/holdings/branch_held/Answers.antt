use Rattle.std.proofs.Common.{inl, inr, refl}
use Rattle.cluster_model.proofs.holdings.branch_held.Goals as goal
use Rattle.cluster_model.proofs.Held.{held_of, lasts_at, lasts_now}
use Rattle.cluster_model.specs.Clusters.{member_fork}

pub returns-clause-only : goal.returns-clause-only
returns-clause-only c = λ w x top k s i. held_of top w s k x i

pub returns-clause-fork : goal.returns-clause-fork
returns-clause-fork c = λ w slot top k s. lasts_at top w s k (member_fork (w.nodes k)) slot (inr refl)

pub returns-clause-points : goal.returns-clause-points
returns-clause-points c = λ w slot top k p s i. lasts_at top w s k p slot (inl i)

pub returns-clause-complete : goal.returns-clause-complete
returns-clause-complete c = λ w slot top k s e. lasts_now top w s k slot e
