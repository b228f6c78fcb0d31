use Rattle.std.proofs.Common.{◌∷◌, ◌++◌, [], ◌∙◌, ap, append_assoc, List}
use Rattle.std.proofs.lemmas.Result.{IfOk-weaker}
use Rattle.vb_events.specs.declared.event.Answer.TheVariants as answer
use Rattle.vb_events.specs.declared.event.Cause.TheVariants as cause
use Rattle.vb_events.specs.declared.event.Event.{Event}
use Rattle.vb_events.specs.declared.event.Event.TheVariants as event
use Rattle.node_world.specs.declared.arm.Fired.TheVariants as fired
use Rattle.node_world.specs.declared.told.Told.{Told}
use Rattle.node_world.specs.Power.{disk_end}
use Rattle.node_world.proofs.Befalling.{broken_as}
use Rattle.node_world.proofs.world.World.meet_broken.Goals as goal

pub returns-in-No : goal.returns-in-No
returns-in-No c = IfOk-weaker c.disk_ended.result _ _ (λ came said w stands. broken_as c.args.n c.args.link c.args.arm c.args.told came w c.args.self.now c.fired.result fired.No (c.fired.ensures w stands) c.in-No.is (stands, said)) c.disk_ended.ensures

pub returns-in_ok-failed-in-Failed : goal.returns-in_ok-failed-in-Failed
returns-in_ok-failed-in-Failed c =
    IfOk-weaker c.disk_ended-in-Failed.result _ _ (λ came said w stands.
    broken_as c.args.n c.args.link c.args.arm c.args.told came w c.args.self.now c.fired.result fired.Failed (c.fired.ensures w stands) c.in-Failed.is (
      stands,
      said ∙ ap (λ (t : Told). record { events = t.events ++ disk_end c.args.link; answer = answer.No cause.Disk }) c.in_ok-failed-in-Failed.ensures
          ∙ ap (λ (xs : List Event). record { events = xs; answer = answer.No cause.Disk }) (append_assoc c.args.told.events (event.CallFailed c.args.n ∷ []) (disk_end c.args.link)),
    )) c.disk_ended-in-Failed.ensures

pub returns-in-Stopped : goal.returns-in-Stopped
returns-in-Stopped c = IfOk-weaker c.stop.result _ _ (λ came said w stands. broken_as c.args.n c.args.link c.args.arm c.args.told came w c.stop.new.self c.fired.result fired.Stopped (c.fired.ensures w stands) c.in-Stopped.is (said w stands)) c.stop.ensures
