use Rattle.std.proofs.Common.{◌∙◌}
use Rattle.std.proofs.lemmas.Result.{IfOk-weaker}
use Rattle.node_world.proofs.OnNodes.{in_inside, in_kept, stands_in}
use Rattle.node_world.proofs.Turning.{posted_line, unposted_line}
use Rattle.node_world.proofs.world.World.tell_out.Goals as goal

pub returns-in_default : goal.returns-in_default
returns-in_default c = λ w stands.
    let known = unposted_line c.args.self.now w c.args.n c.args.out (in_kept c.args.self.now _ c.deref.result.now c.args.n c.node_place.result c.self.view_is c.deref.ensures.value c.node_place.ensures ∙ c.in_default.is) stands in
    (known.0, c.of.ensures ∙ known.1)

pub returns : goal.returns
returns c = IfOk-weaker c.tell_out.result _ _ (λ told carried w stands.
    posted_line _ w c.args.n c.in-Some.at c.index_mut.result.now c.tell_out.new.self c.args.out told
    (in_inside c.args.self.now _ c.deref.result.now c.args.n c.node_place.result c.self.view_is c.deref.ensures.value c.node_place.ensures ∙ c.in-Some.is) c.index_mut.ensures.value (stands_in c.args.self.now _ w c.self.view_is stands) carried) c.tell_out.ensures
