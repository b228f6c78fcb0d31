use Rattle.transcript_law.proofs.rows.AnsweredRows.{answered, before_durable, behind_durable, broken, broken_behind, broken_waits, behind_response, durable, durable_later, each, hung, later, none, one_only, part, pieces, pieces_unanswered, response, set, shut, unanswered, whole}
use Rattle.transcript_law.proofs.answered.judged_unanswered.Goals as goal

pub returns : goal.returns
returns c = record {
  answered = answered;
  unanswered = unanswered;
  later = later;
  each = each;
  one_only = one_only;
  pieces = pieces;
  pieces_unanswered = pieces_unanswered;
  hung = hung;
  durable_later = durable_later;
  none = none;
  part = part;
  whole = whole;
  shut = shut;
  response = response;
  behind_response = behind_response;
  set = set;
  durable = durable;
  behind_durable = behind_durable;
  broken = broken;
  broken_behind = broken_behind;
  broken_waits = broken_waits;
  before_durable = before_durable;
}
