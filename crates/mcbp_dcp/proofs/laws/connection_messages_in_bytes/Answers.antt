use Rattle.mcbp_dcp.proofs.ConnectionBytes.{close, ask, noop, acknowledged, closed, nooped, log, refused, active, replica, pending, dead, stated, heads}
use Rattle.mcbp_dcp.proofs.laws.connection_messages_in_bytes.Goals as goal

pub returns-clause-close : goal.returns-clause-close
returns-clause-close c = close

pub returns-clause-ask : goal.returns-clause-ask
returns-clause-ask c = ask

pub returns-clause-noop : goal.returns-clause-noop
returns-clause-noop c = noop

pub returns-clause-acknowledged : goal.returns-clause-acknowledged
returns-clause-acknowledged c = acknowledged

pub returns-clause-closed : goal.returns-clause-closed
returns-clause-closed c = closed

pub returns-clause-nooped : goal.returns-clause-nooped
returns-clause-nooped c = nooped

pub returns-clause-log : goal.returns-clause-log
returns-clause-log c = log

pub returns-clause-refused : goal.returns-clause-refused
returns-clause-refused c = refused

pub returns-clause-heads : goal.returns-clause-heads
returns-clause-heads c = heads

pub returns-clause-active : goal.returns-clause-active
returns-clause-active c = active

pub returns-clause-replica : goal.returns-clause-replica
returns-clause-replica c = replica

pub returns-clause-pending : goal.returns-clause-pending
returns-clause-pending c = pending

pub returns-clause-dead : goal.returns-clause-dead
returns-clause-dead c = dead

pub returns-clause-stated : goal.returns-clause-stated
returns-clause-stated c = stated
