use Rattle.node_world.proofs.Posting.{PostsSoFar}
use Rattle.node_world.proofs.script_node.ScriptNode.post_all.Given as goal

-- so many outcomes were told
abbrev pub invariant-loop-outcome : goal.invariant-loop-outcome
invariant-loop-outcome l = PostsSoFar l.outcomes l.fn.self l.fn.lines l.outcome-index l.lines l.self
