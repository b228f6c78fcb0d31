use Rattle.dcp_producer.proofs.Durables.{prepare_bytes_put, removal_bytes_put, commit_bytes_put, abort_bytes_put}
use Rattle.dcp_producer.proofs.laws.durable_writes_in_bytes.Goals as goal

pub returns-clause-prepare : goal.returns-clause-prepare
returns-clause-prepare c = prepare_bytes_put

pub returns-clause-removal : goal.returns-clause-removal
returns-clause-removal c = removal_bytes_put

pub returns-clause-commit : goal.returns-clause-commit
returns-clause-commit c = commit_bytes_put

pub returns-clause-abort : goal.returns-clause-abort
returns-clause-abort c = abort_bytes_put
