use Rattle.std.proofs.Common.{◌∙◌, sym, subst}
use Rattle.node_world.specs.declared.script_node.ScriptNode.{ScriptNode}
use Rattle.node_world.specs.Ends.{ShutsPeer}
use Rattle.node_world.proofs.LinkSteps.{unmade_unlinks, unlinks}
use Rattle.node_world.proofs.link_lines.shut.Goals as goal

pub returns-in-Some : goal.returns-in-Some
returns-in-Some c =
    unlinks c.args.nodes.now c.in-Some.at c.index-nodes-at.result c.shut_peer.new.self c.args.link.now (sym c.node_place.ensures ∙ c.in-Some.is) c.index-nodes-at.is
    (subst (λ (old : ScriptNode). ShutsPeer c.args.link.now.conn old c.shut_peer.new.self) (sym c.index-nodes-at.is) c.shut_peer.ensures)

pub returns-in_default : goal.returns-in_default
returns-in_default c = unmade_unlinks c.args.nodes.now c.args.link.now (sym c.node_place.ensures ∙ c.in_default.is)
