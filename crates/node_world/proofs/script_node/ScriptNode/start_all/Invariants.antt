use Rattle.node_world.proofs.StartRuns.{StartsSoFar}
use Rattle.node_world.proofs.script_node.ScriptNode.start_all.Given as goal

abbrev pub invariant-loop-v : goal.invariant-loop-v
invariant-loop-v l = StartsSoFar l.starts l.fn.self l.v-index l.told l.self
