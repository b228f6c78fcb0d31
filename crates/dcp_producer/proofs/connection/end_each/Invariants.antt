use Rattle.std.specs.Prelude.{◌≡◌, ◌++◌, map, take, drop}
use Rattle.dcp_producer.specs.Ending.{ended_in}
use Rattle.dcp_producer.proofs.connection.end_each.Given as goal

abbrev pub invariant-loop-stream : goal.invariant-loop-stream
invariant-loop-stream l = l.stream-items ≡ map (ended_in l.vb l.ids) (take l.stream-index l.initial.stream-items) ++ drop l.stream-index l.initial.stream-items
