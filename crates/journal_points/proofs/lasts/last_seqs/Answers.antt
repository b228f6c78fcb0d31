use Rattle.std.proofs.Common.{ap, ◌∙◌}
use Rattle.std.specs.FinMap.{get, insert, get-empty}
use Rattle.vb_types.specs.Keys.{key_cmp}
use Rattle.journal_points.proofs.Lasting.{lasts_more_at, lasts_stay_at, none_yet}
use Rattle.journal_points.proofs.lasts.last_seqs.Goals as goal
use Rattle.journal_points.proofs.lasts.last_seqs.Goals.{then-touches+in_ok-clone+in_ok-insert, else-touches}

pub loop-change-init : goal.loop-change-init
loop-change-init c = none_yet c.args.side c.new-lasts.result (λ key. ap (λ m. get {R = key_cmp} m key) c.new-lasts.ensures ∙ get-empty key_cmp key)

pub loop-change-preserved : goal.loop-change-preserved
loop-change-preserved c =
    elim c.if-touches.branch [
      | then-touches+in_ok-clone+in_ok-insert w ↦
          lasts_more_at c.args.side c.args.changes.now c.loop-change.change-index c.change-item.result c.change-item.result c.loop-change.lasts c.if-touches.lasts c.loop-change-test.true c.change-item.is c.loop-change.invariant w.if-touches.ensures
          (w.lasts-is ∙ w.in_ok-insert.ensures.ok ∙ ap (λ k. insert c.loop-change.lasts k c.change-item.result.now.seq) w.in_ok-clone.ensures.cases)
      | else-touches w ↦
          lasts_stay_at c.args.side c.args.changes.now c.loop-change.change-index c.change-item.result c.change-item.result c.loop-change.lasts c.if-touches.lasts c.loop-change-test.true c.change-item.is c.loop-change.invariant w.if-touches.ensures w.lasts-is
    ]
