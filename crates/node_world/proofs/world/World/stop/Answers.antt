use Rattle.std.proofs.Common.{◌∷◌, ◌++◌, [], ◌∙◌, ap, append_assoc, List}
use Rattle.vb_events.specs.declared.event.Answer.TheVariants as answer
use Rattle.vb_events.specs.declared.event.Cause.TheVariants as cause
use Rattle.vb_events.specs.declared.event.Event.{Event}
use Rattle.vb_events.specs.declared.event.Event.TheVariants as event
use Rattle.node_world.specs.Power.{down_lines}
use Rattle.node_world.proofs.world.World.stop.Goals as goal

pub returns : goal.returns
returns c = λ w stands.
    let (after, told) = c.in_ok-power_off.ensures w stands in (
      after,
      ap (λ (xs : List Event). record { events = xs; answer = answer.No cause.Stopped })
          (told ∙ ap (λ (xs : List Event). xs ++ down_lines c.args.n c.args.also w) c.in_ok-push.ensures.ok ∙ append_assoc c.args.told.events (event.NodeStopped c.args.n ∷ []) (down_lines c.args.n c.args.also w)),
    )
