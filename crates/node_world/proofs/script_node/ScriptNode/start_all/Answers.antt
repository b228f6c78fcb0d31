use Rattle.node_world.proofs.StartRuns.{more_so_far, stopped_there}
use Rattle.node_world.proofs.script_node.ScriptNode.start_all.Goals as goal

pub returns-then-branch : goal.returns-then-branch
returns-then-branch c =
    stopped_there c.args.starts.now c.args.self.now c.loop-v.v-index (0, 0) c.loop-v-test.true c.loop-v.told c.loop-v.self c.loop-v.invariant c.start_one_more.new.told c.start_one_more.new.self c.in_ok-start_one_more.field-0 c.in_ok-start_one_more.ensures c.if-branch.true

pub loop-v-preserved : goal.loop-v-preserved
loop-v-preserved c =
    more_so_far c.args.starts.now c.args.self.now c.loop-v.v-index (0, 0) c.loop-v-test.true c.loop-v.told c.loop-v.self c.loop-v.invariant c.start_one_more.new.told c.start_one_more.new.self c.in_ok-start_one_more.field-0 c.in_ok-start_one_more.ensures c.if-branch.false
