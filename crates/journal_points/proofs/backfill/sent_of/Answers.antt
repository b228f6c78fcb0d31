use Rattle.std.proofs.Common.{map, ◌∙◌, Bor}
use Rattle.vb_types.specs.declared.change.Change.{Change}
use Rattle.journal_points.proofs.Lasting.{sent_more, sent_same}
use Rattle.journal_points.proofs.backfill.sent_of.Goals as goal
use Rattle.journal_points.proofs.backfill.sent_of.Goals.{then-has_above+in_ok-push_plain, else-has_above}

pub loop-change-preserved : goal.loop-change-preserved
loop-change-preserved c =
    let all = map (λ (x : Bor Change). x.now) c.args.changes.now in
    elim c.if-has_above.branch [
      | then-has_above+in_ok-push_plain w ↦ w.sent-is ∙ w.in_ok-push_plain.ensures
          ∙ sent_more c.args.start all c.args.changes.now c.loop-change.change-index c.change-item.result c.change-item.result c.in_ok-lasts.lasts.committed c.in_ok-lasts.lasts.pending c.loop-change.sent c.loop-change-test.true c.change-item.is
          c.in_ok-lasts.ensures.committed c.in_ok-lasts.ensures.pending c.loop-change.invariant w.if-has_above.ensures
      | else-has_above w ↦ w.sent-is
          ∙ sent_same c.args.start all c.args.changes.now c.loop-change.change-index c.change-item.result c.change-item.result c.in_ok-lasts.lasts.committed c.in_ok-lasts.lasts.pending c.loop-change.sent c.loop-change-test.true c.change-item.is
          c.in_ok-lasts.ensures.committed c.in_ok-lasts.ensures.pending c.loop-change.invariant w.if-has_above.ensures
    ]
