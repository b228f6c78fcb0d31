use Rattle.std.proofs.Common.{ap, sym, ◌∙◌, arith}
use Rattle.std.specs.FinMap as map
use Rattle.hash_table.proofs.Puts.{put_before}
use Rattle.hash_table.proofs.hash_table.load_docs.Goals as goal

pub loop-at-preserved : goal.loop-at-preserved
loop-at-preserved c =
    let pair = c.index-docs-at.result in (
      omega (arith, c.loop-at.invariant.0),
      c.in_ok-load_doc.ensures
          ∙ ap (λ m. map.insert m pair.0.now pair.1.now) c.loop-at.invariant.1
          ∙ sym (put_before (λ p. (p.0.now, p.1.now)) c.args.table.now.map pair c.args.docs.now c.loop-at.at c.loop-at-test.true c.loop-at.invariant.0 (sym c.index-docs-at.is)),
    )
