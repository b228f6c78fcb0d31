use Rattle.node_world.proofs.Leavings.{cuts_one, dials_quietly, ends_once_over}
use Rattle.node_world.proofs.leaving_laws.links_go_once_over.Goals as goal

pub returns-clause-downs : goal.returns-clause-downs
returns-clause-downs c = λ w l link node add_link there. ends_once_over w l link node add_link there

pub returns-clause-cuts : goal.returns-clause-cuts
returns-clause-cuts c = λ w l link add_link. cuts_one w l link add_link

pub returns-clause-dials : goal.returns-clause-dials
returns-clause-dials c = λ w l m n v buffer takeover. dials_quietly w l m n v buffer takeover
