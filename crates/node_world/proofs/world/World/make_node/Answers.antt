use Rattle.std.proofs.Common.{◌∙◌, sym, ap, subst, List, is_some}
use Rattle.node_world.specs.declared.script_node.ScriptNode.{ScriptNode}
use Rattle.node_world.specs.Nodes.{done}
use Rattle.node_world.specs.Stands.{WorldStands}
use Rattle.node_world.specs.World.{node_step}
use Rattle.node_world.proofs.OnNodes.{is_nothing, in_kept, in_inside, stands_in, node_exists, node_made}
use Rattle.node_world.proofs.world.World.make_node.Goals as goal

pub returns-then-is_some : goal.returns-then-is_some
returns-then-is_some c = λ w stands.
    let place = in_kept c.args.self.now _ c.deref.result.now c.args.n c.node_place.result c.self.view_is c.deref.ensures.value c.node_place.ensures in
    let known = node_exists c.args.self.now w c.args.n (ap is_some place ∙ sym c.is_some.ensures ∙ c.if-is_some.true) stands in
    (known.0, c.refusal.ensures ∙ known.1)

pub returns : goal.returns
returns c = λ w stands.
    let place = in_inside c.args.self.now _ c.deref.result.now c.args.n c.node_place.result c.self.view_is c.deref.ensures.value c.node_place.ensures in
    let new = c.new.ensures in
    let known = node_made c.new.result new.vbs new.disks new.conns new.dials new.clients new.clock new.made new.arm new.off _ w c.args.n (place ∙ is_nothing c.node_place.result (sym c.is_some.ensures ∙ c.if-is_some.false)) new.number
    (stands_in c.args.self.now _ w c.self.view_is stands) in (
      subst (λ (nodes : List ScriptNode). WorldStands (record { nodes = nodes; ids = c.self.inside.ids; links = c.self.inside.links.items }) (node_step w c.args.n).0) (sym c.in_ok-push.ensures.items) known.0,
      c.done.ensures ∙ ap done c.new-2.ensures ∙ known.1,
    )
