use Rattle.vb_turn.specs.Words.{IsSeatOf}
use Rattle.turn_tests.proofs.tests.put_gated.Given as goal

abbrev pub invariant-loop-i : goal.invariant-loop-i
invariant-loop-i g l = IsSeatOf l.turn l.seat
