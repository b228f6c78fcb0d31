use Rattle.transcript_law.proofs.rows.AnswerLefts as rows
use Rattle.transcript_law.proofs.replies.judged_left_prepares.Goals as goal

pub returns : goal.returns
returns c = record {
  left = rows.left;
  left_none = rows.left_none;
  left_over = rows.left_over;
  left_found = rows.left_found;
  beside_left = rows.beside_left;
  since_none = rows.since_none;
  since = rows.since;
  own_none = rows.own_none;
  own_found = rows.own_found;
  own_over = rows.own_over;
  again_found = rows.again_found;
  again = rows.again;
  started = rows.started;
  started_none = rows.started_none;
  left_set = rows.left_set;
  left_locked = rows.left_locked;
  since_set = rows.since_set;
  since_locked = rows.since_locked;
  own_set = rows.own_set;
  left_durable = rows.left_durable;
  left_durable_locked = rows.left_durable_locked;
  own_durable = rows.own_durable;
}
