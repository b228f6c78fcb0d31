use Rattle.node_world.proofs.Leavings.{crashes_one, lets_closed_go}
use Rattle.node_world.proofs.leaving_laws.closed_connections_are_gone.Goals as goal

pub returns-clause-clients : goal.returns-clause-clients
returns-clause-clients c = λ w n node there up. lets_closed_go w n node there up

pub returns-clause-crashes : goal.returns-clause-crashes
returns-clause-crashes c = λ w n out. crashes_one w n out
