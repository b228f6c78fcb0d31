use Rattle.node_world.proofs.Counted.{counted}
use Rattle.node_world.proofs.StartIds.{takes_ids}
use Rattle.node_world.proofs.owed_laws.starts_count.Goals as goal

pub returns-clause-ids : goal.returns-clause-ids
returns-clause-ids c = λ w n node books there off. takes_ids n books w node there off

pub returns-clause-counts : goal.returns-clause-counts
returns-clause-counts c = λ w n node books there off. counted n books w node there off
