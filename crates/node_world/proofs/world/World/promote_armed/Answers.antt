use Rattle.std.proofs.lemmas.Result.{IfOk-weaker}
use Rattle.node_world.specs.Turns.{promote_step}
use Rattle.node_world.proofs.Befalling.{armed_line}
use Rattle.node_world.proofs.world.World.promote_armed.Goals as goal

pub returns : goal.returns
returns c = IfOk-weaker c.meet_arm.result _ _ (λ came met w stands rests.
    let (after, said) = c.in_ok-told.ensures w stands rests in
    let x = promote_step w c.args.n c.args.v c.args.uuid in
    armed_line c.args.n w c.meet_arm.new.self c.arm-arm.result c.in_ok-told.told came x (c.arm-arm.ensures w stands) said (met x.0 after)) c.meet_arm.ensures
