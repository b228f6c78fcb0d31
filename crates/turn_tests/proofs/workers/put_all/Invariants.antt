use Rattle.std.proofs.Common.{take}
use Rattle.vb_turn.specs.Words.{view, IsSeatOf}
use Rattle.turn_tests.specs.Puts.{HasPut}
use Rattle.turn_tests.proofs.workers.put_all.Given as goal

abbrev pub invariant-loop-value : goal.invariant-loop-value
invariant-loop-value g l = IsSeatOf l.turn l.seat × HasPut (take l.value-index l.values) (view l.initial.seat) (view l.seat)
