use Rattle.node_world.proofs.Indexers.{answers_in_order, hangs_up, pulls_frames}
use Rattle.node_world.proofs.OutcomesTold.{clients_told}
use Rattle.node_world.proofs.indexer_laws.clients_are_served.Goals as goal

pub returns-clause-pulls : goal.returns-clause-pulls
returns-clause-pulls c = λ w n k node client there up open_one. pulls_frames w n k node client there up open_one

pub returns-clause-asks : goal.returns-clause-asks
returns-clause-asks c = λ w n k node client bytes f there up open_one begins dcp. answers_in_order w n k node client bytes f there up open_one begins dcp

pub returns-clause-turns : goal.returns-clause-turns
returns-clause-turns c = λ w n v node vb there up here. clients_told w n node there up v vb here

pub returns-clause-hangs : goal.returns-clause-hangs
returns-clause-hangs c = λ w n k node client there up open_one. hangs_up w n k node client there up open_one
