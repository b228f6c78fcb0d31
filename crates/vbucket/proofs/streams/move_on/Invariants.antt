use Rattle.std.proofs.Common.{◌≡◌, ◌++◌, map, take, drop}
use Rattle.vb_calls.specs.Streams.{moved_on}
use Rattle.vbucket.proofs.streams.move_on.Given as goal

abbrev pub invariant-loop-at : goal.invariant-loop-at
invariant-loop-at l = l.streams ≡ map (moved_on l.id l.end) (take l.at l.fn.streams) ++ drop l.at l.fn.streams
