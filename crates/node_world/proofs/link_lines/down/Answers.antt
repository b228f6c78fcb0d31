use Rattle.std.proofs.Common.{ℕ, List, ◌++◌, ◌∙◌, ap, sym, subst}
use Rattle.script_text.specs.declared.verb.LinkVerb.TheVariants as link_verb
use Rattle.node_world.specs.declared.script_node.ScriptNode.{ScriptNode}
use Rattle.node_world.specs.Ends.{FeedsDial}
use Rattle.node_world.proofs.LinkSteps.{unmade_consumer, down_line}
use Rattle.node_world.proofs.link_lines.down.Goals as goal

pub returns-in_default : goal.returns-in_default
returns-in_default c = unmade_consumer (link_verb.Down c.args.wanted) c.args.nodes.now c.args.link.now c.on.result.told c.on.result.over (sym c.node_place.ensures ∙ c.in_default.is)

pub returns : goal.returns
returns c =
    down_line c.args.nodes.now c.in-Some.at c.index-nodes-at.result c.feed_dial.new.self c.args.link.now c.args.wanted c.moved_len-n.result c.front.result.now c.in_ok-out.out c.push.new.self c.advance.new.self c.moved_if.result
    c.index-nodes-at.is (sym c.node_place.ensures ∙ c.in-Some.is) c.moved_len-n.ensures.len c.front.ensures
    (subst (λ (old : ScriptNode). FeedsDial c.args.link.now.vb c.front.result.now old c.in_ok-out.out c.feed_dial.new.self) (sym c.index-nodes-at.is) c.in_ok-out.ensures) c.advance.ensures
    (c.in_ok-push.ensures.ok ∙ ap (λ (bytes : List ℕ). c.args.link.now.up ++ bytes) c.as_slice.ensures) c.moved_if.ensures
