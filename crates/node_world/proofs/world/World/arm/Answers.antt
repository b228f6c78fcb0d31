use Rattle.std.proofs.Common.{◌∙◌}
use Rattle.node_world.proofs.Dropping.{arm_at_place, arm_none}
use Rattle.node_world.proofs.OnNodes.{in_kept, in_inside, stands_in}
use Rattle.node_world.proofs.world.World.arm.Goals as goal

pub returns-in-None : goal.returns-in-None
returns-in-None c = λ w stands.
    c.off.ensures ∙ arm_none c.args.self.now w c.args.n (in_kept c.args.self.now _ c.deref.result.now c.args.n c.node_place.result c.self.view_is c.deref.ensures.value c.node_place.ensures ∙ c.in-None.is) stands

pub returns-in-Some : goal.returns-in-Some
returns-in-Some c = λ w stands.
    arm_at_place _ w c.args.n c.in-Some.at c.index.result.now (in_inside c.args.self.now _ c.deref.result.now c.args.n c.node_place.result c.self.view_is c.deref.ensures.value c.node_place.ensures ∙ c.in-Some.is) c.index.ensures
    (stands_in c.args.self.now _ w c.self.view_is stands)
