use Rattle.std.proofs.Common.{◌<◌, length, arith}
use Rattle.node_core.proofs.LoadSteps.{stand_next, active_more}
use Rattle.node_core.proofs.node.loading.load_vbs.Goals as goal

pub loop-at-preserved : goal.loop-at-preserved
loop-at-preserved g c =
    let below : c.loop-at.at < length c.args.opened.now.items = omega (arith, c.loop-at-test.true, c.loop-at.auto.at-end, c.len-at-end.ensures) in
    let is = c.index.ensures in record {
      stand = stand_next c.args.node c.args.opened.now.items c.loop-at.at c.index.result.now c.loop-at.vbs c.load_next.new.vbs below is c.loop-at.invariant.stand c.in_ok-load_next.ensures.stand;
      active = active_more c.args.opened.now.items c.loop-at.at c.index.result.now _ _ below is c.loop-at.invariant.active c.in_ok-load_next.ensures.active;
    }
