use Rattle.std.proofs.Common.{◌≡◌, ◌++◌, map, take, drop}
use Rattle.vb_calls.specs.Streams.{with_cursor_as}
use Rattle.vbucket.proofs.streams.mark_fed.Given as goal

abbrev pub invariant-loop-at : goal.invariant-loop-at
invariant-loop-at l = l.streams ≡ map (with_cursor_as l.has l.id) (take l.at l.fn.streams) ++ drop l.at l.fn.streams
