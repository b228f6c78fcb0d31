use Rattle.transcript_law.proofs.rows.CheckedRows as rows
use Rattle.transcript_law.proofs.checked.judged_checked_requests.Goals as goal

pub returns : goal.returns
returns c = record {
  goes = rows.goes;
  sent_back = rows.sent_to;
  goes_on = rows.goes_on;
  elsewhere = rows.elsewhere;
  stranger = rows.stranger;
  dead = rows.dead;
  log = rows.log;
  high = rows.high;
  adopts = rows.adopts;
  adopts_other = rows.adopts_other;
}
