use Rattle.node_world.proofs.Plumbing.{clocks, groups, outcomes}
use Rattle.node_world.proofs.plumbing_laws.lines_are_told_in_order.Goals as goal

pub returns-clause-groups : goal.returns-clause-groups
returns-clause-groups c = groups

pub returns-clause-clocks : goal.returns-clause-clocks
returns-clause-clocks c = clocks

pub returns-clause-outcomes : goal.returns-clause-outcomes
returns-clause-outcomes c = outcomes
