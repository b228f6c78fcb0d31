use Rattle.std.proofs.Common.{◌≡◌, ◌∙◌, ◌++◌, List, ap, sym}
use Rattle.vb_events.specs.declared.event.Event.{Event}
use Rattle.node_world.specs.declared.told.Told.{Told}
use Rattle.node_world.specs.Power.{down_lines}
use Rattle.std.specs.Prelude.{None}
use Rattle.node_world.proofs.OnNodes.{in_kept, in_inside, made_at, stands_in, up_at}
use Rattle.node_world.proofs.Places.{no_node}
use Rattle.node_world.proofs.Restarts.{crash_down, crash_made, crash_unmade}
use Rattle.node_world.proofs.world.World.crash.Goals as goal

pub returns-in_default : goal.returns-in_default
returns-in_default c = λ w stands.
    let none = in_kept c.args.self.now _ c.deref.result.now c.args.n c.node_place.result c.self.view_is c.deref.ensures.value c.node_place.ensures ∙ c.in_default.is in
    let known = crash_unmade c.args.self.now w c.args.n c.args.out (no_node c.args.self.now.nodes w c.args.n none stands.nodes) stands in
    (known.0, c.refusal.ensures ∙ known.1)

pub returns-then-not-up : goal.returns-then-not-up
returns-then-not-up c = λ w stands.
    let place = in_inside c.args.self.now _ c.deref.result.now c.args.n c.node_place.result c.self.view_is c.deref.ensures.value c.node_place.ensures ∙ c.in-Some.is in
    let inside = stands_in c.args.self.now _ w c.self.view_is stands in
    let known = crash_down c.args.self.now w c.args.n c.args.out (made_at _ w c.args.n c.in-Some.at c.index.result.now c.index.result.now place c.index.ensures inside)
    (up_at _ w c.args.n c.in-Some.at c.index.result.now c.index.result.now place c.index.ensures inside ∙ sym c.is_up-up.ensures ∙ c.if-not-up.true) stands in
    (known.0, c.refusal-then-not-up.ensures ∙ known.1)

pub returns : goal.returns
returns c = λ w stands.
    let place = in_inside c.args.self.now _ c.deref.result.now c.args.n c.node_place.result c.self.view_is c.deref.ensures.value c.node_place.ensures ∙ c.in-Some.is in
    let inside = stands_in c.args.self.now _ w c.self.view_is stands in
    let (after, lines) = c.in_ok-power_off.ensures w stands in
    let told : c.power_off.new.events ≡ down_lines c.args.n None w = lines ∙ ap (λ (xs : List Event). xs ++ down_lines c.args.n None w) (ap (λ (t : Told). t.events) c.done-told.ensures ∙ c.new.ensures) in
    crash_made c.power_off.new.self w c.args.n c.args.out _ (made_at _ w c.args.n c.in-Some.at c.index.result.now c.index.result.now place c.index.ensures inside)
    (up_at _ w c.args.n c.in-Some.at c.index.result.now c.index.result.now place c.index.ensures inside ∙ sym c.is_up-up.ensures ∙ c.if-not-up.false) after (λ i. record { events = told i; answer = (c.done-told.ensures i).answer })
