use Rattle.thread_tests.proofs.Tables.{none_shared}
use Rattle.thread_tests.proofs.nodes.deal_four.Goals as goal

pub loop-v-init : goal.loop-v-init
loop-v-init g c = none_shared c.new-main.result c.new-one.result c.new-two.result c.new-main.ensures c.new-one.ensures c.new-two.ensures
