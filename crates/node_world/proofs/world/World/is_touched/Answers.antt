use Rattle.std.proofs.Common.{◌∙◌}
use Rattle.node_world.proofs.Dropping.{touched_at, touched_none}
use Rattle.node_world.proofs.OnLinks.{link_in, link_kept}
use Rattle.node_world.proofs.OnNodes.{stands_in}
use Rattle.node_world.proofs.world.World.is_touched.Goals as goal

pub returns-in-None : goal.returns-in-None
returns-in-None c = λ w stands.
    touched_none c.args.self.now w c.args.n c.args.l (link_kept c.args.self.now _ c.deref.result.now c.args.l c.link_place.result c.self.view_is c.deref.ensures.value c.link_place.ensures ∙ c.in-None.is) stands

pub returns-in-Some : goal.returns-in-Some
returns-in-Some c = λ w stands.
    c.touches.ensures
    ∙ touched_at _ w c.args.n c.args.l c.in-Some.at c.index.result.now (link_in c.self.inside.links.items c.deref.result.now c.args.l c.link_place.result c.deref.ensures.value c.link_place.ensures ∙ c.in-Some.is) c.index.ensures
    (stands_in c.args.self.now _ w c.self.view_is stands)
