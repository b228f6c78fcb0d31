use Rattle.std.proofs.Common.{ap, sym, ◌∙◌, arith}
use Rattle.std.specs.FinMap as map
use Rattle.vb_types.specs.Images.{Picture}
use Rattle.hash_table.proofs.Puts.{put_before}
use Rattle.hash_table.proofs.hash_table.put_pends.Goals as goal

pub loop-at-preserved : goal.loop-at-preserved
loop-at-preserved c =
    let pair = c.index-pends-at.result in (
      omega (arith, c.loop-at.invariant.0),
      c.in_ok-put_pend.ensures
          ∙ ap (λ (i : Picture). record i { pending = map.insert i.pending pair.0.now pair.1.now }) c.loop-at.invariant.1
          ∙ ap (λ m. record c.args.image.now { pending = m }) (sym (put_before (λ p. (p.0.now, p.1.now)) c.args.image.now.pending pair c.args.pends.now c.loop-at.at c.loop-at-test.true c.loop-at.invariant.0 (sym c.index-pends-at.is))),
    )
