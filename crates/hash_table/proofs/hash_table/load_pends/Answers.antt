use Rattle.std.proofs.Common.{ap, sym, ◌∙◌, arith}
use Rattle.std.specs.FinMap as map
use Rattle.hash_table.proofs.Puts.{put_before}
use Rattle.hash_table.proofs.hash_table.load_pends.Goals as goal

pub loop-at-preserved : goal.loop-at-preserved
loop-at-preserved c =
    let pair = c.index-pends-at.result in (
      omega (arith, c.loop-at.invariant.0),
      c.in_ok-load_pend.ensures
          ∙ ap (λ m. map.insert m pair.0.now pair.1.now) c.loop-at.invariant.1
          ∙ sym (put_before (λ p. (p.0.now, p.1.now)) c.args.table.now.map pair c.args.pends.now c.loop-at.at c.loop-at-test.true c.loop-at.invariant.0 (sym c.index-pends-at.is)),
    )
