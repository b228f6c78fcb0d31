use Rattle.thread_tests.specs.Tables.{StayOf}
use Rattle.thread_tests.proofs.nodes.feed_all.Given as goal

abbrev pub invariant-loop-i : goal.invariant-loop-i
invariant-loop-i g l = StayOf l.fn.node.vbs l.node.vbs
