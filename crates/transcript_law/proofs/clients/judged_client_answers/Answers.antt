use Rattle.transcript_law.proofs.rows.ClientRows.{closed_anew, hung, hung_closed, hung_other, hung_refused, hung_twice, opened_again, opened_other, opened_twice, other_closed, other_limit, other_refused, other_taken, sent, sent_anew, sent_closed, sent_hung, sent_other, sent_refused}
use Rattle.transcript_law.proofs.clients.judged_client_answers.Goals as goal

pub returns : goal.returns
returns c = record {
  opened_again = opened_again;
  opened_twice = opened_twice;
  opened_other = opened_other;
  other_taken = other_taken;
  other_limit = other_limit;
  sent = sent;
  sent_refused = sent_refused;
  sent_other = sent_other;
  other_closed = other_closed;
  other_refused = other_refused;
  hung = hung;
  hung_refused = hung_refused;
  hung_other = hung_other;
  hung_twice = hung_twice;
  hung_closed = hung_closed;
  sent_hung = sent_hung;
  sent_anew = sent_anew;
  sent_closed = sent_closed;
  closed_anew = closed_anew;
}
