use Rattle.std.proofs.Common.{ap, reverse, ◌∙◌}
use Rattle.std.specs.Prelude.{Some}
use Rattle.std.specs.List.{filter}
use Rattle.branch_model.specs.Journals as journal
use Rattle.journal_points.specs.Limits.{is_within}
use Rattle.journal_points.proofs.Walks.{roll_log, everything}
use Rattle.journal_points.proofs.saved.log_of.Goals as goal

pub loop-record-init : goal.loop-record-init
loop-record-init c = everything (journal.log_of (reverse c.args.records.now))

pub loop-record-preserved : goal.loop-record-preserved
loop-record-preserved c =
    ap (λ n. filter (λ e. is_within (Some n) e.seq) (journal.log_of (reverse c.in-Some.before.now))) c.lower.ensures
    ∙ roll_log c.loop-record.least c.in-Roll.to _ c.in-Some.before.now c.in-Some.record.now c.in-Some.ensures.cases.0 c.in-Roll.is
    ∙ c.loop-record.invariant
