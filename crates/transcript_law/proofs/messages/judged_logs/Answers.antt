use Rattle.transcript_law.proofs.messages.judged_logs.Goals as goal
use Rattle.transcript_law.proofs.rows.MessageAnswers.{logs_another, logs_away, logs_away_log, logs_away_there, logs_early, logs_early_log, logs_empty, logs_log, logs_other_opaque, logs_refused, logs_unknown, logs_unknown_away}

pub returns : goal.returns
returns c = record {
  log = logs_log;
  another = logs_another;
  empty = logs_empty;
  other_opaque = logs_other_opaque;
  refused = logs_refused;
  away_there = logs_away_there;
  unknown = logs_unknown;
  unknown_away = logs_unknown_away;
  away = logs_away;
  away_log = logs_away_log;
  early = logs_early;
  early_log = logs_early_log;
}
