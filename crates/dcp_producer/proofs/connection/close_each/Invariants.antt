use Rattle.std.specs.Prelude.{drop}
use Rattle.vb_calls.specs.Programs.{Ran}
use Rattle.dcp_producer.specs.Ending.{streams_closed}
use Rattle.dcp_producer.proofs.connection.close_each.Given as goal

abbrev pub invariant-loop-stream : goal.invariant-loop-stream
invariant-loop-stream g l =
    (new : _) → Ran g.A.VbAccess.step (streams_closed (drop l.stream-index l.streams)) l.vbs tt new → Ran g.A.VbAccess.step (streams_closed l.streams) l.initial.vbs tt new
