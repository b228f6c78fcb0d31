use Rattle.dcp_consumer.proofs.Receiving.{set_bytes_come, remove_bytes_come, marker_bytes_come, done_bytes_come, state_bytes_come}
use Rattle.dcp_consumer.proofs.laws.changes_from_bytes.Goals as goal

pub returns-clause-stored : goal.returns-clause-stored
returns-clause-stored c = set_bytes_come

pub returns-clause-removed : goal.returns-clause-removed
returns-clause-removed c = remove_bytes_come

pub returns-clause-marker : goal.returns-clause-marker
returns-clause-marker c = marker_bytes_come

pub returns-clause-over : goal.returns-clause-over
returns-clause-over c = done_bytes_come

pub returns-clause-changed : goal.returns-clause-changed
returns-clause-changed c = state_bytes_come
