use Rattle.transcript_law.proofs.messages.judged_closings.Goals as goal
use Rattle.transcript_law.proofs.rows.MessageAnswers.{closings_at_another, closings_closed_before, closings_closed_behind, closings_closed_typed, closings_closes, closings_closes_none, closings_early, closings_early_none, closings_ended, closings_ended_closes, closings_found, closings_found_behind, closings_found_other, closings_lawful, closings_none, closings_none_closes, closings_not_lawful, closings_twice_lawful, closings_twice_not}

pub returns : goal.returns
returns c = record {
  closes = closings_closes;
  closes_none = closings_closes_none;
  none = closings_none;
  none_closes = closings_none_closes;
  ended = closings_ended;
  ended_closes = closings_ended_closes;
  early = closings_early;
  early_none = closings_early_none;
  found = closings_found;
  found_behind = closings_found_behind;
  found_other = closings_found_other;
  closed_before = closings_closed_before;
  closed_behind = closings_closed_behind;
  closed_typed = closings_closed_typed;
  at_another = closings_at_another;
  lawful = closings_lawful;
  not_lawful = closings_not_lawful;
  twice_lawful = closings_twice_lawful;
  twice_not = closings_twice_not;
}
