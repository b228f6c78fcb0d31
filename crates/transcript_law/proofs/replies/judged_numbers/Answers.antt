use Rattle.transcript_law.proofs.rows.AnswerNumbers as rows
use Rattle.transcript_law.proofs.replies.judged_numbers.Goals as goal

pub returns : goal.returns
returns c = record {
  last = rows.last;
  last_spent = rows.last_spent;
  spent = rows.spent;
  spent_unsure = rows.spent_unsure;
  spent_locked = rows.spent_locked;
  spent_far = rows.spent_far;
  spent_away = rows.spent_away;
  plain = rows.plain;
  next = rows.next;
  next_unsure = rows.next_unsure;
  refused = rows.refused;
  noop = rows.noop;
  noop_spent = rows.noop_spent;
  plain_counts = rows.plain_counts;
}
