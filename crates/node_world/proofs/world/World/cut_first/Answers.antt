use Rattle.std.proofs.Common.{◌≡◌, ◌∙◌, get_or, subst}
use Rattle.node_world.specs.Stands.{Kept}
use Rattle.node_world.proofs.Dropping.{cut_none, cut_one, touch_in}
use Rattle.node_world.proofs.world.World.cut_first.Goals as goal

pub returns : goal.returns
returns c = λ count turn w lt cut.
    cut_one c.args.n count turn c.in-Some.at c.args.self.now c.on_link.new.self w c.index.result.now _
    (touch_in c.args.self.now _ c.deref.result.now c.args.n c.touching_place.result c.self.view_is c.deref.ensures.value c.touching_place.ensures ∙ c.in-Some.is)
    (subst (λ (k : Kept). c.index.result.now ≡ get_or k.links c.in-Some.at c.index.result.now) c.self.view_is c.index.ensures) c.in_ok-on_link.ensures cut

pub returns-in_default : goal.returns-in_default
returns-in_default c = λ count turn w lt cut.
    cut_none c.args.n count turn c.args.self.now w lt
    (touch_in c.args.self.now _ c.deref.result.now c.args.n c.touching_place.result c.self.view_is c.deref.ensures.value c.touching_place.ensures ∙ c.in_default.is) cut
