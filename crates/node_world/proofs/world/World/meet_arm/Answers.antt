use Rattle.std.proofs.Common.{refl}
use Rattle.std.proofs.lemmas.Result.{IfOk-weaker}
use Rattle.node_world.specs.declared.arm.Fired.TheVariants as fired
use Rattle.node_world.proofs.Befalling.{fired_as}
use Rattle.node_world.proofs.world.World.meet_arm.Goals as goal

pub returns-in-No : goal.returns-in-No
returns-in-No c = λ w stands. fired_as c.args.n c.args.arm c.args.told c.args.told w c.args.self.now c.fired.result fired.No (c.fired.ensures w stands) c.in-No.is (stands, refl)

pub returns-in-Failed : goal.returns-in-Failed
returns-in-Failed c = IfOk-weaker c.with_line.result _ _ (λ came said w stands. fired_as c.args.n c.args.arm c.args.told came w c.args.self.now c.fired.result fired.Failed (c.fired.ensures w stands) c.in-Failed.is (stands, said)) c.with_line.ensures

pub returns-in-Stopped : goal.returns-in-Stopped
returns-in-Stopped c = IfOk-weaker c.stop.result _ _ (λ came said w stands. fired_as c.args.n c.args.arm c.args.told came w c.stop.new.self c.fired.result fired.Stopped (c.fired.ensures w stands) c.in-Stopped.is (said w stands)) c.stop.ensures
