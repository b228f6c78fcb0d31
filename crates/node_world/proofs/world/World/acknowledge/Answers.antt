use Rattle.std.proofs.Common.{◌∙◌, ℕ, List, set, subst, sym}
use Rattle.std.proofs.lemmas.Result.{IfOk-weaker}
use Rattle.node_world.specs.Cuts.{own_link}
use Rattle.node_world.specs.Dues.{due_of}
use Rattle.node_world.specs.Stands.{WorldStands}
use Rattle.node_world.proofs.OnNodes.{in_inside, in_kept, stands_in}
use Rattle.node_world.proofs.Dues.{acknowledged, not_fed, not_made, own_in, own_kept}
use Rattle.node_world.proofs.world.World.acknowledge.Goals as goal

pub returns-in_default : goal.returns-in_default
returns-in_default c = λ w stands.
    not_fed c.args.self.now w c.args.n c.args.v c.args.told (own_kept c.args.self.now _ c.deref.result.now c.args.n c.args.v c.own_place.result c.self.view_is c.deref.ensures.value c.own_place.ensures ∙ c.in_default.is) stands

pub returns-in_default-node_place : goal.returns-in_default-node_place
returns-in_default-node_place c = λ w stands.
    not_made c.args.self.now w c.args.n c.args.v c.args.told (in_kept c.args.self.now _ c.deref-2.result.now c.args.n c.node_place.result c.self.view_is c.deref-2.ensures.value c.node_place.ensures ∙ c.in_default-node_place.is) stands

pub returns : goal.returns
returns c = IfOk-weaker c.send_on.result _ _ (λ came sent w stands.
    let known = acknowledged _ w c.args.n c.args.v c.in-Some.at c.in-Some-node_place.owner c.index_mut-2.result.now c.index_mut.result.now c.acknowledge.new.self c.in_ok-out.out c.args.told
    (own_in c.self.inside.links.items c.deref.result.now c.args.n c.args.v c.own_place.result c.deref.ensures.value c.own_place.ensures ∙ c.in-Some.is) c.index_mut-2.ensures.value
    (in_inside c.args.self.now _ c.deref-2.result.now c.args.n c.node_place.result c.self.view_is c.deref-2.ensures.value c.node_place.ensures ∙ c.in-Some-node_place.is) c.index_mut.ensures.value
    (stands_in c.args.self.now _ w c.self.view_is stands) c.in_ok-out.ensures in (
      subst (λ (up : List ℕ). WorldStands (record { nodes = set c.self.inside.nodes.items c.in-Some-node_place.owner c.acknowledge.new.self; ids = c.self.inside.ids; links = set c.self.inside.links.items c.in-Some.at (record c.index_mut-2.result.now { up = up }) })
          (due_of c.args.n w c.args.told (own_link c.args.n c.args.v w.links)).0) (sym sent.1) known.0,
      sent.0 ∙ known.1,
    )) c.send_on.ensures
