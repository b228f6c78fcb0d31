use Rattle.dcp_producer.proofs.Durables.{set_bytes_put, remove_bytes_put, memory_bytes_put, disk_bytes_put, over_bytes_put, sent_bytes_put}
use Rattle.dcp_producer.proofs.laws.changes_in_bytes.Goals as goal

pub returns-clause-stored : goal.returns-clause-stored
returns-clause-stored c = set_bytes_put

pub returns-clause-removed : goal.returns-clause-removed
returns-clause-removed c = remove_bytes_put

pub returns-clause-marker : goal.returns-clause-marker
returns-clause-marker c = memory_bytes_put

pub returns-clause-disk : goal.returns-clause-disk
returns-clause-disk c = disk_bytes_put

pub returns-clause-over : goal.returns-clause-over
returns-clause-over c = over_bytes_put

pub returns-clause-sent : goal.returns-clause-sent
returns-clause-sent c = sent_bytes_put
