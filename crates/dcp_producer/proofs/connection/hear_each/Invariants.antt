use Rattle.std.specs.Prelude.{◌≡◌, ◌++◌, map, take, drop}
use Rattle.dcp_producer.specs.Serving.{heard}
use Rattle.dcp_producer.proofs.connection.hear_each.Given as goal

abbrev pub invariant-loop-stream : goal.invariant-loop-stream
invariant-loop-stream l = l.stream-items ≡ map (heard l.opaque) (take l.stream-index l.initial.stream-items) ++ drop l.stream-index l.initial.stream-items
