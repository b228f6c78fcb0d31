use Rattle.mcbp_dcp.proofs.DurableBytes.{prepare, removal, commit, abort, acknowledged, times, heads}
use Rattle.mcbp_dcp.proofs.laws.durable_messages_in_bytes.Goals as goal

pub returns-clause-prepare : goal.returns-clause-prepare
returns-clause-prepare c = prepare

pub returns-clause-removal : goal.returns-clause-removal
returns-clause-removal c = removal

pub returns-clause-commit : goal.returns-clause-commit
returns-clause-commit c = commit

pub returns-clause-abort : goal.returns-clause-abort
returns-clause-abort c = abort

pub returns-clause-acknowledged : goal.returns-clause-acknowledged
returns-clause-acknowledged c = acknowledged

pub returns-clause-times : goal.returns-clause-times
returns-clause-times c = times

pub returns-clause-heads : goal.returns-clause-heads
returns-clause-heads c = heads
