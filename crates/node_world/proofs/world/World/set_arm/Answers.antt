use Rattle.std.proofs.Common.{◌∙◌, [], ap}
use Rattle.node_world.specs.Nodes.{arm_at, done}
use Rattle.node_world.proofs.OnNodes.{absent_made, in_kept, in_inside, made_line, stands_in}
use Rattle.node_world.proofs.Dropping.{arm_carried}
use Rattle.node_world.proofs.world.World.set_arm.Goals as goal

pub returns-in_default : goal.returns-in_default
returns-in_default c = λ w stands.
    let none = in_kept c.args.self.now _ c.deref.result.now c.args.n c.node_place.result c.self.view_is c.deref.ensures.value c.node_place.ensures ∙ c.in_default.is in
    let known = absent_made c.args.self.now w c.args.n (arm_at c.args.arm) none stands in
    (known.0, c.refusal.ensures ∙ known.1)

pub returns : goal.returns
returns c = λ w stands.
    let known = made_line _ w c.args.n c.in-Some.at c.index_mut.result.now _ (in_inside c.args.self.now _ c.deref.result.now c.args.n c.node_place.result c.self.view_is c.deref.ensures.value c.node_place.ensures ∙ c.in-Some.is)
    c.index_mut.ensures.value (stands_in c.args.self.now _ w c.self.view_is stands) (λ m. arm_at c.args.arm) (done []) (arm_carried c.index_mut.result.now c.args.arm) in
    (known.0, c.done.ensures ∙ ap done c.new.ensures ∙ known.1)
