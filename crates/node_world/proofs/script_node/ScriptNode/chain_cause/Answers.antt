use Rattle.node_world.proofs.Chaining.{refuses_chain}
use Rattle.node_world.proofs.script_node.ScriptNode.chain_cause.Goals as goal

pub returns : goal.returns
returns c = refuses_chain c.args.self.now c.args.v c.in_ok-active.active c.bad_chain_cause.result c.is_active.new.self c.in_ok-active.ensures.ok c.is_active.ensures.rest c.bad_chain_cause.ensures
