use Rattle.node_world.proofs.Arguments.{arms, clients, dials, vbs}
use Rattle.node_world.proofs.owed_laws.lines_pass_their_arguments.Goals as goal

pub returns-clause-clients : goal.returns-clause-clients
returns-clause-clients c = λ w n node there up. clients w n node there up

pub returns-clause-arms : goal.returns-clause-arms
returns-clause-arms c = λ w n node there. arms w n node there

pub returns-clause-vbs : goal.returns-clause-vbs
returns-clause-vbs c = λ w n node there up. vbs w n node there up

pub returns-clause-dials : goal.returns-clause-dials
returns-clause-dials c = λ w n v node vb there here. dials w n v node vb there here
