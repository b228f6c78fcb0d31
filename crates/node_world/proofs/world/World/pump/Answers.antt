use Rattle.std.proofs.lemmas.Result.{IfOk-weaker}
use Rattle.node_world.proofs.GivesUp.{pump_line}
use Rattle.node_world.proofs.world.World.pump.Goals as goal

pub returns : goal.returns
returns c = IfOk-weaker c.behind.result _ _ (λ came is w stands.
    pump_line w c.args.l c.args.frames c.give_up.new.self c.on_link.new.self c.in_ok-gave.gave c.in_ok-told.told came (c.in_ok-gave.ensures w stands) c.in_ok-told.ensures is) c.behind.ensures
