use Rattle.std.proofs.Common.{◌∙◌, sym, ap, is_some}
use Rattle.node_world.proofs.Clients.{some_copied}
use Rattle.node_world.proofs.Dropping.{client_none, client_is_open}
use Rattle.node_world.proofs.OnNodes.{in_kept, in_inside, stands_in}
use Rattle.node_world.proofs.world.World.has_client.Goals as goal

pub returns-in-None : goal.returns-in-None
returns-in-None c = λ w stands.
    client_none c.args.self.now w c.args.n c.args.c (in_kept c.args.self.now _ c.deref.result.now c.args.n c.node_place.result c.self.view_is c.deref.ensures.value c.node_place.ensures ∙ c.in-None.is) stands

pub returns-in-Some : goal.returns-in-Some
returns-in-Some c = λ w stands.
    c.is_some.ensures ∙ sym (some_copied c.get.result) ∙ ap is_some c.get.ensures
    ∙ client_is_open _ w c.args.n c.in-Some.at c.args.c c.index.result.now (in_inside c.args.self.now _ c.deref.result.now c.args.n c.node_place.result c.self.view_is c.deref.ensures.value c.node_place.ensures ∙ c.in-Some.is) c.index.ensures
    (stands_in c.args.self.now _ w c.self.view_is stands)
