use Rattle.std.proofs.Common.{ℕ, List, ◌++◌, ◌∙◌, ap, sym, subst}
use Rattle.script_text.specs.declared.verb.LinkVerb.TheVariants as link_verb
use Rattle.node_world.specs.declared.script_node.ScriptNode.{ScriptNode}
use Rattle.node_world.specs.Ends.{PullsPeer}
use Rattle.node_world.proofs.LinkSteps.{unmade_producer, pump_line}
use Rattle.node_world.proofs.link_lines.pump.Goals as goal

pub returns-in_default : goal.returns-in_default
returns-in_default c = unmade_producer (link_verb.Pump c.args.frames) c.args.nodes.now c.args.link.now c.on.result.told c.on.result.over (sym c.node_place.ensures ∙ c.in_default.is)

pub returns : goal.returns
returns c =
    pump_line c.args.nodes.now c.in-Some.at c.index-nodes-at.result c.pull.new.self c.args.link.now c.args.frames c.in_ok-out.out c.push.new.self c.on-2.result.told
    c.index-nodes-at.is (sym c.node_place.ensures ∙ c.in-Some.is)
    (subst (λ (old : ScriptNode). PullsPeer c.args.link.now.conn c.args.frames old c.in_ok-out.out c.pull.new.self) (sym c.index-nodes-at.is) c.in_ok-out.ensures)
    (c.in_ok-push.ensures.ok ∙ ap (λ (bytes : List ℕ). c.args.link.now.down ++ bytes) c.as_slice.ensures) (c.on-2.ensures.told ∙ c.of.ensures) c.on-2.result.over c.on-2.ensures.over
