use Rattle.std.proofs.Common.{◌∙◌, ◌∷◌, ◌++◌, [], Bool, ap}
use Rattle.std.specs.Prelude.{if◌then◌else◌}
use Rattle.std.proofs.lemmas.Result.{on_ok_weaker}
use Rattle.vb_events.specs.declared.event.EndReason.TheVariants as reason
use Rattle.vb_events.specs.declared.event.Event.TheVariants as event
use Rattle.node_world.proofs.world.World.tell_end.Goals as goal

pub returns : goal.returns
returns c = on_ok_weaker c.push_if.result (λ told w stands.
    told ∙ ap (λ (b : Bool). c.args.events.now ++ (if b then event.Ended c.args.link reason.Cut ∷ [] else [])) (c.is_ended-is_told.ensures w stands)) c.push_if.ensures
