use Rattle.std.proofs.Common.{◌∙◌, sym, subst, set, true}
use Rattle.script_text.specs.declared.verb.LinkVerb.TheVariants as link_verb
use Rattle.node_world.specs.declared.script_node.ScriptNode.{ScriptNode}
use Rattle.node_world.specs.Ends.{CutsDial, LinkStep}
use Rattle.node_world.proofs.LinkSteps.{unmade_consumer, cut_step}
use Rattle.node_world.proofs.link_lines.cut.Goals as goal

pub returns-in_default : goal.returns-in_default
returns-in_default c = unmade_consumer link_verb.Cut c.args.nodes.now c.args.link.now c.on.result.told c.on.result.over (sym c.node_place.ensures ∙ c.in_default.is)

pub returns : goal.returns
returns c =
    subst (λ told. LinkStep link_verb.Cut c.args.nodes.now c.args.link.now told true (set c.args.nodes.now c.in-Some.at c.cut_dial.new.self) c.args.link.now) (sym c.of.ensures)
    (cut_step c.args.nodes.now c.in-Some.at c.index-nodes-at.result c.cut_dial.new.self c.args.link.now (sym c.node_place.ensures ∙ c.in-Some.is) c.index-nodes-at.is c.in_ok-out.out
    (subst (λ (old : ScriptNode). CutsDial c.args.link.now.vb old c.in_ok-out.out c.cut_dial.new.self) (sym c.index-nodes-at.is) c.in_ok-out.ensures))
