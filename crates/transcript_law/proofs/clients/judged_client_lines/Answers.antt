use Rattle.transcript_law.proofs.rows.ClientRows.{closed, closed_again, closed_elsewhere, closed_hung, closed_later, closed_other, closed_twice, hung_then, reply, reply_behind, reply_closed, reply_elsewhere, reply_hung, reply_later, reply_other, reply_unasked}
use Rattle.transcript_law.proofs.clients.judged_client_lines.Goals as goal

pub returns : goal.returns
returns c = record {
  closed = closed;
  closed_other = closed_other;
  closed_elsewhere = closed_elsewhere;
  closed_twice = closed_twice;
  closed_later = closed_later;
  closed_again = closed_again;
  closed_hung = closed_hung;
  hung = hung_then;
  reply = reply;
  reply_unasked = reply_unasked;
  reply_other = reply_other;
  reply_elsewhere = reply_elsewhere;
  reply_behind = reply_behind;
  reply_later = reply_later;
  reply_closed = reply_closed;
  reply_hung = reply_hung;
}
