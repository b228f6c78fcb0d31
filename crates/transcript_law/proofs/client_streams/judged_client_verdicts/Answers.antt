use Rattle.transcript_law.proofs.rows.ClientStreamVerdicts as rows
use Rattle.transcript_law.proofs.client_streams.judged_client_verdicts.Goals as goal

pub returns : goal.returns
returns c = record {
  other_log = rows.other_log;
  other_high = rows.other_high;
  rolls = rows.rolls;
  goes_on = rows.goes_on;
  rolls_less = rows.rolls_less;
  dead = rows.dead;
  dead_rolls = rows.dead_rolls;
}
