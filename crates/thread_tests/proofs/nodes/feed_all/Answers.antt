use Rattle.thread_tests.proofs.Tables.{feeds}
use Rattle.thread_tests.proofs.nodes.feed_all.Goals as goal

pub loop-i-preserved : goal.loop-i-preserved
loop-i-preserved g c = feeds 0 c.args.key c.as_slice.result.now c.args.node.now c.loop-i.node c.in_ok-out.out c.feed.new.self c.in_ok-out.ensures.ok c.loop-i.invariant
