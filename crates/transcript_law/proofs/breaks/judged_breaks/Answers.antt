use Rattle.transcript_law.proofs.rows.BreakRows.{behind, early, idle, named, no_reason, other, other_answer, outcome, outcome_later, outcome_named, outcome_other, outcome_silent, outcome_whole, part, silent, stays, stopped, ticked, unnamed, whole}
use Rattle.transcript_law.proofs.breaks.judged_breaks.Goals as goal

pub returns : goal.returns
returns c = record {
  named = named;
  unnamed = unnamed;
  behind = behind;
  stays = stays;
  whole = whole;
  part = part;
  silent = silent;
  other_answer = other_answer;
  early = early;
  other = other;
  outcome = outcome;
  outcome_named = outcome_named;
  outcome_whole = outcome_whole;
  outcome_silent = outcome_silent;
  outcome_later = outcome_later;
  outcome_other = outcome_other;
  stopped = stopped;
  ticked = ticked;
  no_reason = no_reason;
  idle = idle;
}
