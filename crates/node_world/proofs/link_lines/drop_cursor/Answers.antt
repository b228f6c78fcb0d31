use Rattle.std.proofs.Common.{◌∙◌, sym, subst}
use Rattle.script_text.specs.declared.verb.LinkVerb.TheVariants as link_verb
use Rattle.node_world.specs.declared.script_node.ScriptNode.{ScriptNode}
use Rattle.node_world.specs.Ends.{DropsPeer}
use Rattle.node_world.proofs.LinkSteps.{unmade_producer, drop_line}
use Rattle.node_world.proofs.link_lines.drop_cursor.Goals as goal

pub returns-in_default : goal.returns-in_default
returns-in_default c = unmade_producer link_verb.Drop c.args.nodes.now c.args.link.now c.on.result.told c.on.result.over (sym c.node_place.ensures ∙ c.in_default.is)

pub returns : goal.returns
returns c =
    drop_line c.args.nodes.now c.in-Some.at c.index-nodes-at.result c.drop_peer-out.new.self c.args.link.now c.drop_peer-out.result c.on-2.result.told
    c.index-nodes-at.is (sym c.node_place.ensures ∙ c.in-Some.is)
    (subst (λ (old : ScriptNode). DropsPeer c.args.link.now.conn c.args.link.now.vb old c.drop_peer-out.result c.drop_peer-out.new.self) (sym c.index-nodes-at.is) c.drop_peer-out.ensures)
    (c.on-2.ensures.told ∙ c.of.ensures) c.on-2.result.over c.on-2.ensures.over
