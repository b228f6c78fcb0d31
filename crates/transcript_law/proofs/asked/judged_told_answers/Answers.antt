use Rattle.std.specs.Prelude.{◌∷◌}
use Rattle.transcript_law.proofs.Words.{[], refl}
use Rattle.transcript_law.proofs.rows.AskedRows.{log_silent, not_log, not_shown, not_stat, right_log, right_show, right_stat, show_silent, stat_silent}
use Rattle.transcript_law.proofs.asked.judged_told_answers.Goals as goal
use Rattle.transcript_law.specs.AskedRows.{shown_at}
use Rattle.transcript_law.specs.TellingRows.{changes_here, log_at, stat_at}

pub returns : goal.returns
returns c = record {
  shown = right_show;
  shown_other = λ lines. not_shown (shown_at 0 1 ∷ lines) refl;
  shown_elsewhere = λ lines. not_shown (shown_at 1 0 ∷ lines) refl;
  shown_none = not_shown [] refl;
  shown_twice = not_shown (shown_at 0 0 ∷ shown_at 0 0 ∷ []) refl;
  shown_behind = λ lines. not_shown (changes_here ∷ lines) refl;
  shown_refused = show_silent;
  stat = right_stat;
  stat_none = not_stat [] refl;
  stat_twice = not_stat (stat_at 0 0 ∷ stat_at 0 0 ∷ []) refl;
  stat_change = not_stat (stat_at 0 0 ∷ changes_here ∷ []) refl;
  stat_refused = stat_silent;
  log = right_log;
  log_none = not_log [] refl;
  log_twice = not_log (log_at 0 0 ∷ log_at 0 0 ∷ []) refl;
  log_refused = log_silent;
}
