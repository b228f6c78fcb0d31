use Rattle.dcp_producer.proofs.Closing.{close_early, close_none, close_told}
use Rattle.dcp_producer.proofs.stream_laws.closed_streams_are_silent.Goals as goal

pub returns-clause-early : goal.returns-clause-early
returns-clause-early c = close_early

pub returns-clause-none : goal.returns-clause-none
returns-clause-none c = close_none

pub returns-clause-closed : goal.returns-clause-closed
returns-clause-closed c f s s' stream made opened sound there told = close_told f s sound stream there opened made s' told
