use Rattle.node_world.proofs.FramesUp.{posts_between, serves_behind}
use Rattle.node_world.proofs.leaving_laws.outcomes_come_first.Goals as goal

pub returns-clause-ups : goal.returns-clause-ups
returns-clause-ups c = λ w l link producer open_link from. posts_between w l link producer open_link from

pub returns-clause-clock : goal.returns-clause-clock
returns-clause-clock c = λ r k session a node. serves_behind r k session a node
