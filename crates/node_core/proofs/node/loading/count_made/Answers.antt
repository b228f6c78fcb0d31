use Rattle.std.proofs.Common.{◌<◌, length, arith}
use Rattle.node_core.proofs.LoadSteps.{made_more}
use Rattle.node_core.proofs.node.loading.count_made.Goals as goal

pub loop-at-preserved : goal.loop-at-preserved
loop-at-preserved g c =
    let below : c.loop-at.at < length c.args.opened.now.items = omega (arith, c.loop-at-test.true, c.loop-at.auto.at-end, c.len-at-end.ensures) in record {
      made = made_more c.args.opened.now.items c.loop-at.at c.index.result.now c.loop-at.made c.made_by-made.result below c.index.ensures c.loop-at.invariant.made c.made_by-made.ensures.number;
      few = omega (arith, c.loop-at.invariant.few, c.made_by-made.ensures.few);
    }
