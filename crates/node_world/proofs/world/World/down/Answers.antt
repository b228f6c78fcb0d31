use Rattle.std.proofs.Common.{◌∙◌, sym}
use Rattle.std.proofs.lemmas.Result.{IfOk-weaker}
use Rattle.script_text.specs.declared.verb.LinkVerb.TheVariants as link_verb
use Rattle.node_world.specs.Lines.{link_line_at}
use Rattle.node_world.specs.Stands.{ends_of}
use Rattle.node_world.proofs.Befalling.{down_broken, down_none, down_well}
use Rattle.node_world.proofs.Dropping.{open_at}
use Rattle.node_world.proofs.OnLinks.{closed_line, link_in, link_kept, not_open}
use Rattle.node_world.proofs.OnNodes.{stands_in}
use Rattle.node_world.proofs.world.World.down.Goals as goal

pub returns-in_default : goal.returns-in_default
returns-in_default c = λ w stands.
    let place = link_kept c.args.self.now _ c.deref.result.now c.args.l c.link_place.result c.self.view_is c.deref.ensures.value c.link_place.ensures ∙ c.in_default.is in
    let known = closed_line c.args.self.now w (link_verb.Down c.args.bytes) c.args.l place stands in
    down_none w c.args.l c.args.bytes c.args.self.now _ (not_open (ends_of c.args.self.now.nodes) c.args.l c.args.self.now.links w.links place stands.links.each) (known.0, c.refusal.ensures ∙ known.1)

pub returns-then-is_broken_answer : goal.returns-then-is_broken_answer
returns-then-is_broken_answer c = IfOk-weaker c.meet_broken.result _ _ (λ came met w stands.
    let (p, there, number) = open_at _ w c.args.l c.in-Some.at c.index.result.now (link_in c.self.inside.links.items c.deref.result.now c.args.l c.link_place.result c.deref.ensures.value c.link_place.ensures ∙ c.in-Some.is) c.index.ensures
    (stands_in c.args.self.now _ w c.self.view_is stands) in
    let (after, said) = c.in_ok-told.ensures w stands in
    down_broken w c.args.l c.args.bytes c.index.result.now.node p there number c.meet_broken.new.self c.arm-arm.result c.in_ok-told.told came (c.arm-arm.ensures w stands) said
    (sym c.is_broken_answer.ensures ∙ c.if-is_broken_answer.true) (met (link_line_at (link_verb.Down c.args.bytes) w c.args.l).0 after)) c.meet_broken.ensures

pub returns : goal.returns
returns c = λ w stands.
    let (p, there, number) = open_at _ w c.args.l c.in-Some.at c.index.result.now (link_in c.self.inside.links.items c.deref.result.now c.args.l c.link_place.result c.deref.ensures.value c.link_place.ensures ∙ c.in-Some.is) c.index.ensures
    (stands_in c.args.self.now _ w c.self.view_is stands) in
    down_well w c.args.l c.args.bytes c.index.result.now.node p there number c.on_link.new.self c.in_ok-told.told (sym c.is_broken_answer.ensures ∙ c.if-is_broken_answer.false) (c.in_ok-told.ensures w stands)
