use Rattle.thread_tests.specs.Tables.{AreShared}
use Rattle.thread_tests.proofs.nodes.deal_four.Given as goal

abbrev pub invariant-loop-v : goal.invariant-loop-v
invariant-loop-v g l = AreShared l.main l.one l.two
