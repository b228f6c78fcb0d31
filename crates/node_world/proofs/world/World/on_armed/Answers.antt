use Rattle.std.proofs.lemmas.Result.{IfOk-weaker}
use Rattle.node_world.specs.Lines.{at_node}
use Rattle.node_world.specs.Worlds.{on_node}
use Rattle.node_world.proofs.Befalling.{armed_line}
use Rattle.node_world.proofs.world.World.on_armed.Goals as goal

pub returns : goal.returns
returns c = IfOk-weaker c.meet_arm.result _ _ (λ came met w stands.
    let (after, said) = c.in_ok-told.ensures w stands in
    let x = on_node w c.args.n (at_node w.uuids c.args.n c.args.line) in
    armed_line c.args.n w c.meet_arm.new.self c.arm-arm.result c.in_ok-told.told came x (c.arm-arm.ensures w stands) said (met x.0 after)) c.meet_arm.ensures
