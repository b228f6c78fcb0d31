use Rattle.std.specs.Prelude.{◌≡◌, ◌++◌, map, take, drop}
use Rattle.dcp_producer.specs.Serving.{with_source_at}
use Rattle.dcp_producer.proofs.connection.source_each.Given as goal

abbrev pub invariant-loop-stream : goal.invariant-loop-stream
invariant-loop-stream l = l.stream-items ≡ map (with_source_at l.from l.id) (take l.stream-index l.initial.stream-items) ++ drop l.stream-index l.initial.stream-items
