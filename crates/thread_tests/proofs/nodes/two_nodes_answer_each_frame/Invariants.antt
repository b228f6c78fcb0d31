use Rattle.node_threads.specs.Seats.{rows_of}
use Rattle.thread_tests.specs.Tables.{AreShared}
use Rattle.thread_tests.proofs.nodes.two_nodes_answer_each_frame.Given as goal

abbrev pub invariant-loop-v : goal.invariant-loop-v
invariant-loop-v g l = AreShared (rows_of l.mains.items) (rows_of l.firsts.items) (rows_of l.seconds.items)
