use Rattle.std.proofs.Common.{◌≡◌, ◌≤◌, ◌-◌, None}
use Rattle.node_world.specs.Nodes.{PlainNode, awaiting}
use Rattle.node_world.specs.Stands.{NodeMatch}
use Rattle.node_world.proofs.script_node.ScriptNode.awaiting.Given as goal

-- none of the numbers below awaits it
abbrev pub invariant-loop-client : goal.invariant-loop-client
invariant-loop-client l = record {
  within : l.from ≤ 1000;
  none : (plain : PlainNode) → NodeMatch l.self plain → awaiting plain.clients l.waiter l.from ≡ None;
}

abbrev pub decreases-loop-client : goal.decreases-loop-client
decreases-loop-client l = 1000 - l.from
