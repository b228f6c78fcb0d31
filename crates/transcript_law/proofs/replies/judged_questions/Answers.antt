use Rattle.transcript_law.proofs.rows.AnswerQuestions as rows
use Rattle.transcript_law.proofs.replies.judged_questions.Goals as goal

pub returns : goal.returns
returns c = record {
  next = rows.next;
  opaque = rows.opaque;
  opcode = rows.opcode;
  magic = rows.magic;
  unasked = rows.unasked;
  part = rows.part;
  twice = rows.twice;
  in_turn = rows.in_turn;
  out_of_turn = rows.out_of_turn;
  response = rows.response;
  past_response = rows.past_response;
  past_both = rows.past_both;
  acknowledged = rows.acknowledged;
  past_acknowledged = rows.past_acknowledged;
  unopened = rows.unopened;
  past_unopened = rows.past_unopened;
  opened = rows.opened;
}
