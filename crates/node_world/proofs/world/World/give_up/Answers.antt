use Rattle.std.proofs.Common.{◌∙◌, ap}
use Rattle.std.proofs.lemmas.Result.{IfOk-weaker}
use Rattle.node_world.specs.Nodes.{done}
use Rattle.node_world.proofs.GivesUp.{closed_gives, gave_line, no_server}
use Rattle.node_world.proofs.OnLinks.{link_in, link_kept}
use Rattle.node_world.proofs.OnNodes.{in_inside, stands_in}
use Rattle.node_world.proofs.world.World.give_up.Goals as goal

pub returns-in_default : goal.returns-in_default
returns-in_default c = λ w stands.
    let known = closed_gives c.args.self.now w c.args.l c.args.frames (link_kept c.args.self.now _ c.deref.result.now c.args.l c.link_place.result c.self.view_is c.deref.ensures.value c.link_place.ensures ∙ c.in_default.is) stands in
    (known.0, c.done.ensures ∙ ap done c.new.ensures ∙ known.1)

pub returns-in_default-node_place : goal.returns-in_default-node_place
returns-in_default-node_place c = λ w stands.
    absurd (no_server _ w c.args.l c.in-Some.at c.index-link.result.now (link_in c.self.inside.links.items c.deref.result.now c.args.l c.link_place.result c.deref.ensures.value c.link_place.ensures ∙ c.in-Some.is) c.index-link.ensures
    (in_inside c.args.self.now _ c.deref-2.result.now c.index-link.result.now.producer c.node_place.result c.self.view_is c.deref-2.ensures.value c.node_place.ensures ∙ c.in_default-node_place.is) (stands_in c.args.self.now _ w c.self.view_is stands))

pub returns : goal.returns
returns c = IfOk-weaker c.tell_out.result _ _ (λ told posts w stands.
    gave_line _ w c.args.l c.args.frames c.in-Some.at c.in-Some-node_place.serving c.index-link.result.now c.index_mut.result.now c.give_up.new.self c.in_ok-out.out
    (link_in c.self.inside.links.items c.deref.result.now c.args.l c.link_place.result c.deref.ensures.value c.link_place.ensures ∙ c.in-Some.is) c.index-link.ensures
    (in_inside c.args.self.now _ c.deref-2.result.now c.index-link.result.now.producer c.node_place.result c.self.view_is c.deref-2.ensures.value c.node_place.ensures ∙ c.in-Some-node_place.is) c.index_mut.ensures.value
    (stands_in c.args.self.now _ w c.self.view_is stands) c.in_ok-out.ensures c.tell_out.new.self told posts) c.tell_out.ensures
