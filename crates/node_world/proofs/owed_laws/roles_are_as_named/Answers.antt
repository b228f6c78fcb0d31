use Rattle.node_world.proofs.OutcomesTold.{ends_told, roles_told}
use Rattle.node_world.proofs.owed_laws.roles_are_as_named.Goals as goal

pub returns-clause-lines : goal.returns-clause-lines
returns-clause-lines c = λ w n v node vb there up here. roles_told w n node there up v vb here

pub returns-clause-ends : goal.returns-clause-ends
returns-clause-ends c = λ w n v node vb there up here. ends_told w n node there up v vb here
