use Rattle.std.proofs.lemmas.Result.{IfOk-weaker}
use Rattle.node_world.proofs.StartRuns.{starts_next}
use Rattle.node_world.proofs.script_node.ScriptNode.start_one_more.Goals as goal

pub returns : goal.returns
returns c =
    IfOk-weaker c.meet_arm.result _ _
    (λ over meets. starts_next (c.args.v, c.args.uuid) c.args.self.now c.start_one.new.self c.meet_arm.new.self c.in_ok-one.one c.args.told.now c.tell_start.new.told c.meet_arm.new.told over c.in_ok-one.ensures c.in_ok-tell_start.ensures meets)
    c.meet_arm.ensures
