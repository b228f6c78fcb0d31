use Rattle.std.proofs.Common.{◌∙◌}
use Rattle.node_world.specs.Power.{stopped_node}
use Rattle.node_world.proofs.Dropping.{if_none, node_dropped}
use Rattle.node_world.proofs.OnNodes.{in_kept, in_inside, stands_in}
use Rattle.node_world.proofs.world.World.drop_node.Goals as goal

pub returns-in_default : goal.returns-in_default
returns-in_default c = λ w stands none.
    if_none c.args.self.now w c.args.n (stopped_node c.args.out) (in_kept c.args.self.now _ c.deref.result.now c.args.n c.node_place.result c.self.view_is c.deref.ensures.value c.node_place.ensures ∙ c.in_default.is) stands

pub returns : goal.returns
returns c = λ w stands none.
    let (step, number, bare) = c.power_off.ensures in
    node_dropped _ w c.args.n (stands_in c.args.self.now _ w c.self.view_is stands) none c.in-Some.at c.index_mut.result.now c.power_off.new.self (stopped_node c.args.out)
    (in_inside c.args.self.now _ c.deref.result.now c.args.n c.node_place.result c.self.view_is c.deref.ensures.value c.node_place.ensures ∙ c.in-Some.is) c.index_mut.ensures.value step number bare
