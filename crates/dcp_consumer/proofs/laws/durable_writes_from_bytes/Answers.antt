use Rattle.dcp_consumer.proofs.Receiving.{prepare_bytes_come, removal_bytes_come, commit_bytes_come, abort_bytes_come, level_bytes, flag_bytes}
use Rattle.dcp_consumer.proofs.laws.durable_writes_from_bytes.Goals as goal

pub returns-clause-prepare : goal.returns-clause-prepare
returns-clause-prepare c = prepare_bytes_come

pub returns-clause-removal : goal.returns-clause-removal
returns-clause-removal c = removal_bytes_come

pub returns-clause-commit : goal.returns-clause-commit
returns-clause-commit c = commit_bytes_come

pub returns-clause-abort : goal.returns-clause-abort
returns-clause-abort c = abort_bytes_come

pub returns-clause-level : goal.returns-clause-level
returns-clause-level c = level_bytes

pub returns-clause-flag : goal.returns-clause-flag
returns-clause-flag c = flag_bytes
