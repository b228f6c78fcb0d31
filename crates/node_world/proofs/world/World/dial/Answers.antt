use Rattle.std.proofs.Common.{◌∙◌, refl, sym, subst}
use Rattle.std.proofs.lemmas.Result.{IfOk-weaker}
use Rattle.node_world.specs.World.{link_step}
use Rattle.node_world.specs.Stands.{Kept, WorldStands}
use Rattle.node_world.proofs.OnLinks.{link_in}
use Rattle.node_world.proofs.OnNodes.{in_kept, in_inside, made_at, made_place, off_at, seen_down, seen_up, stands_in}
use Rattle.node_world.proofs.Dialing.{both_on, dialed_link, down_ends, one_off, other_off, refused_link, unmade_consumer, unmade_producer}
use Rattle.node_world.proofs.world.World.dial.Goals as goal

pub returns-in_default : goal.returns-in_default
returns-in_default c = λ w stands.
    let none = in_kept c.args.self.now _ c.deref.result.now c.args.asked.producer c.node_place.result c.self.view_is c.deref.ensures.value c.node_place.ensures ∙ c.in_default.is in
    let known = unmade_producer c.args.self.now w c.args.asked.line c.args.asked.link c.args.asked.producer c.args.asked.node c.args.asked.vb c.args.asked.buffer c.args.asked.takeover none stands in
    (known.0, c.refusal.ensures ∙ known.1)

pub returns-in_default-node_place : goal.returns-in_default-node_place
returns-in_default-node_place c = λ w stands.
    let none = in_kept c.args.self.now _ c.deref-2.result.now c.args.asked.node c.node_place-2.result c.self.view_is c.deref-2.ensures.value c.node_place-2.ensures ∙ c.in_default-node_place.is in
    let known = unmade_consumer c.args.self.now w c.args.asked.line c.args.asked.link c.args.asked.producer c.args.asked.node c.args.asked.vb c.args.asked.buffer c.args.asked.takeover none stands in
    (known.0, c.refusal-in_default-node_place.ensures ∙ known.1)

pub returns-then-not-serves : goal.returns-then-not-serves
returns-then-not-serves c = λ w stands.
    let known = down_ends c.args.self.now w c.args.asked.line c.args.asked.link c.args.asked.producer c.args.asked.node c.args.asked.vb c.args.asked.buffer c.args.asked.takeover (made_at _ w c.args.asked.producer c.in-Some.serving c.index.result.now c.index.result.now (in_inside c.args.self.now _ c.deref.result.now c.args.asked.producer c.node_place.result c.self.view_is c.deref.ensures.value c.node_place.ensures ∙ c.in-Some.is) c.index.ensures (stands_in c.args.self.now _ w c.self.view_is stands)) (made_place _ w c.args.asked.node c.in-Some-node_place.at c.index.result.now (in_inside c.args.self.now _ c.deref-2.result.now c.args.asked.node c.node_place-2.result c.self.view_is c.deref-2.ensures.value c.node_place-2.ensures ∙ c.in-Some-node_place.is) (stands_in c.args.self.now _ w c.self.view_is stands))
    (one_off _ _ (off_at _ w c.args.asked.producer c.in-Some.serving c.index.result.now c.index.result.now (in_inside c.args.self.now _ c.deref.result.now c.args.asked.producer c.node_place.result c.self.view_is c.deref.ensures.value c.node_place.ensures ∙ c.in-Some.is) c.index.ensures (stands_in c.args.self.now _ w c.self.view_is stands) ∙ seen_down c.index.result.now.off c.is_up-serves.result c.is_up-serves.ensures c.if-not-serves.true)) stands in
    (known.0, c.refusal-then-not-serves.ensures ∙ known.1)

pub returns-then-not-runs : goal.returns-then-not-runs
returns-then-not-runs c = λ w stands.
    let known = down_ends c.args.self.now w c.args.asked.line c.args.asked.link c.args.asked.producer c.args.asked.node c.args.asked.vb c.args.asked.buffer c.args.asked.takeover (made_at _ w c.args.asked.producer c.in-Some.serving c.index.result.now c.index.result.now (in_inside c.args.self.now _ c.deref.result.now c.args.asked.producer c.node_place.result c.self.view_is c.deref.ensures.value c.node_place.ensures ∙ c.in-Some.is) c.index.ensures (stands_in c.args.self.now _ w c.self.view_is stands)) (made_at _ w c.args.asked.node c.in-Some-node_place.at c.index-2.result.now c.index-2.result.now (in_inside c.args.self.now _ c.deref-2.result.now c.args.asked.node c.node_place-2.result c.self.view_is c.deref-2.ensures.value c.node_place-2.ensures ∙ c.in-Some-node_place.is) c.index-2.ensures (stands_in c.args.self.now _ w c.self.view_is stands))
    (other_off _ _ (off_at _ w c.args.asked.node c.in-Some-node_place.at c.index-2.result.now c.index-2.result.now (in_inside c.args.self.now _ c.deref-2.result.now c.args.asked.node c.node_place-2.result c.self.view_is c.deref-2.ensures.value c.node_place-2.ensures ∙ c.in-Some-node_place.is) c.index-2.ensures (stands_in c.args.self.now _ w c.self.view_is stands) ∙ seen_down c.index-2.result.now.off c.is_up-runs.result c.is_up-runs.ensures c.if-not-runs.true)) stands in
    (known.0, c.refusal-then-not-runs.ensures ∙ known.1)

pub returns-in_default-answer : goal.returns-in_default-answer
returns-in_default-answer c = λ w stands.
    let known = refused_link _ w c.args.asked.line c.args.asked.link c.args.asked.producer c.args.asked.node c.args.asked.vb c.args.asked.buffer c.args.asked.takeover c.in-Some-node_place.at c.in-Some.serving c.index_mut.result.now c.dial.new.self
    c.in_ok-out.out c.is_none-is_free.result c.link_place.result
    (in_inside c.args.self.now _ c.deref-2.result.now c.args.asked.node c.node_place-2.result c.self.view_is c.deref-2.ensures.value c.node_place-2.ensures ∙ c.in-Some-node_place.is)
    (in_inside c.args.self.now _ c.deref.result.now c.args.asked.producer c.node_place.result c.self.view_is c.deref.ensures.value c.node_place.ensures ∙ c.in-Some.is)
    c.index_mut.ensures.value (link_in c.self.inside.links.items c.deref-3.result.now c.args.asked.link c.link_place.result c.deref-3.ensures.value c.link_place.ensures) c.is_none-is_free.ensures
    (stands_in c.args.self.now _ w c.self.view_is stands) c.in_ok-out.ensures
    (both_on _ _ (off_at _ w c.args.asked.producer c.in-Some.serving c.index.result.now c.index.result.now (in_inside c.args.self.now _ c.deref.result.now c.args.asked.producer c.node_place.result c.self.view_is c.deref.ensures.value c.node_place.ensures ∙ c.in-Some.is) c.index.ensures (stands_in c.args.self.now _ w c.self.view_is stands) ∙ seen_up c.index.result.now.off c.is_up-serves.result c.is_up-serves.ensures c.if-not-serves.false)
    (off_at _ w c.args.asked.node c.in-Some-node_place.at c.index-2.result.now c.index-2.result.now (in_inside c.args.self.now _ c.deref-2.result.now c.args.asked.node c.node_place-2.result c.self.view_is c.deref-2.ensures.value c.node_place-2.ensures ∙ c.in-Some-node_place.is) c.index-2.ensures (stands_in c.args.self.now _ w c.self.view_is stands) ∙ seen_up c.index-2.result.now.off c.is_up-runs.result c.is_up-runs.ensures c.if-not-runs.false)) c.in_default-answer.not-Ok in
    (known.0, c.of.ensures ∙ known.1)

pub returns : goal.returns
returns c = IfOk-weaker c.add_link.result _ _ (λ told opens w stands.
    let known = dialed_link _ w c.args.asked.line c.args.asked.link c.args.asked.producer c.args.asked.node c.args.asked.vb c.args.asked.buffer c.args.asked.takeover c.in-Some-node_place.at c.in-Some.serving c.index_mut.result.now c.dial.new.self
    c.in_ok-out.out c.is_none-is_free.result c.link_place.result
    (in_inside c.args.self.now _ c.deref-2.result.now c.args.asked.node c.node_place-2.result c.self.view_is c.deref-2.ensures.value c.node_place-2.ensures ∙ c.in-Some-node_place.is)
    (in_inside c.args.self.now _ c.deref.result.now c.args.asked.producer c.node_place.result c.self.view_is c.deref.ensures.value c.node_place.ensures ∙ c.in-Some.is)
    c.index_mut.ensures.value (link_in c.self.inside.links.items c.deref-3.result.now c.args.asked.link c.link_place.result c.deref-3.ensures.value c.link_place.ensures) c.is_none-is_free.ensures
    (stands_in c.args.self.now _ w c.self.view_is stands) c.in_ok-out.ensures
    (both_on _ _ (off_at _ w c.args.asked.producer c.in-Some.serving c.index.result.now c.index.result.now (in_inside c.args.self.now _ c.deref.result.now c.args.asked.producer c.node_place.result c.self.view_is c.deref.ensures.value c.node_place.ensures ∙ c.in-Some.is) c.index.ensures (stands_in c.args.self.now _ w c.self.view_is stands) ∙ seen_up c.index.result.now.off c.is_up-serves.result c.is_up-serves.ensures c.if-not-serves.false)
    (off_at _ w c.args.asked.node c.in-Some-node_place.at c.index-2.result.now c.index-2.result.now (in_inside c.args.self.now _ c.deref-2.result.now c.args.asked.node c.node_place-2.result c.self.view_is c.deref-2.ensures.value c.node_place-2.ensures ∙ c.in-Some-node_place.is) c.index-2.ensures (stands_in c.args.self.now _ w c.self.view_is stands) ∙ seen_up c.index-2.result.now.off c.is_up-runs.result c.is_up-runs.ensures c.if-not-runs.false)) c.in-Ok.is opens.server opens.peer opens.conn opens.found opens.opens c.in_ok-out.out.out refl in (
      subst (λ (k : Kept). WorldStands k (link_step w c.args.asked.line c.args.asked.link c.args.asked.producer c.args.asked.node c.args.asked.vb c.args.asked.buffer c.args.asked.takeover).0) (sym opens.after) known.0,
      opens.said ∙ known.1,
    )) c.add_link.ensures
