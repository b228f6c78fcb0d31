use Rattle.transcript_law.proofs.rows.ClosingRows as rows
use Rattle.transcript_law.proofs.breaks.judged_closings_answered.Goals as goal

pub returns : goal.returns
returns c = record {
  answered = rows.answered;
  alone = rows.alone;
  unanswered = rows.unanswered;
  one_unanswered = rows.one_unanswered;
  behind_durable = rows.behind_durable;
  unanswered_behind = rows.unanswered_behind;
  waits = rows.waits;
  brought = rows.brought;
  stops = rows.stops;
  other_stops = rows.other_stops;
  before_stop = rows.before_stop;
  crashes = rows.crashes;
  other_crashes = rows.other_crashes;
  crash_refused = rows.crash_refused;
}
