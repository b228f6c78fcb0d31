use Rattle.node_world.proofs.OutcomesTold.{outcomes, pumps_tell, ups_tell}
use Rattle.node_world.proofs.owed_laws.settled_ones_are_told.Goals as goal

pub returns-clause-lines : goal.returns-clause-lines
returns-clause-lines c = λ w n v node vb there up here. outcomes w n node there up v vb here

pub returns-clause-ups : goal.returns-clause-ups
returns-clause-ups c = λ w l link producer add_link from. ups_tell w l link producer add_link from

pub returns-clause-pumps : goal.returns-clause-pumps
returns-clause-pumps c = λ w l link producer add_link from. pumps_tell w l link producer add_link from
