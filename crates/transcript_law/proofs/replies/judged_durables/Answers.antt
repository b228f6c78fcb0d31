use Rattle.transcript_law.proofs.rows.AnswerDurables as rows
use Rattle.transcript_law.proofs.replies.judged_durables.Goals as goal

pub returns : goal.returns
returns c = record {
  impossible = rows.impossible;
  possible = rows.possible;
  impossible_first = rows.impossible_first;
  locked_first = rows.locked_first;
  locked = rows.locked;
  plain_locked = rows.plain_locked;
  plain_impossible = rows.plain_impossible;
  plain_ambiguous = rows.plain_ambiguous;
  away = rows.away;
  active = rows.active;
  other = rows.other;
  early = rows.early;
  early_away = rows.early_away;
  no_level = rows.no_level;
  level = rows.level;
}
