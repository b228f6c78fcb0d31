use Rattle.thread_tests.proofs.Tables.{all_shared}
use Rattle.thread_tests.proofs.nodes.two_nodes_answer_each_frame.Goals as goal

pub loop-v-init : goal.loop-v-init
loop-v-init g c =
    all_shared c.in_ok-main.main _ c.in_ok-main.one _ c.in_ok-main.two _ c.in_ok-main.ensures c.into_seats-mains.ensures
    c.run_both-first.ensures.first c.run_both-first.ensures.second
