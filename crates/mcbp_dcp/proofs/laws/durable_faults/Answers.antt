use Rattle.mcbp_dcp.proofs.DurableFaults.{prepare_lengths, commit_lengths, abort_lengths, acknowledged_lengths, removal_values, commit_values, abort_values, acknowledges_bare}
use Rattle.mcbp_dcp.proofs.laws.durable_faults.Goals as goal

pub returns-clause-prepare : goal.returns-clause-prepare
returns-clause-prepare c = prepare_lengths

pub returns-clause-commit : goal.returns-clause-commit
returns-clause-commit c = commit_lengths

pub returns-clause-abort : goal.returns-clause-abort
returns-clause-abort c = abort_lengths

pub returns-clause-acknowledged : goal.returns-clause-acknowledged
returns-clause-acknowledged c = acknowledged_lengths

pub returns-clause-removal : goal.returns-clause-removal
returns-clause-removal c = removal_values

pub returns-clause-committed : goal.returns-clause-committed
returns-clause-committed c = commit_values

pub returns-clause-aborted : goal.returns-clause-aborted
returns-clause-aborted c = abort_values

pub returns-clause-bare : goal.returns-clause-bare
returns-clause-bare c = acknowledges_bare
