use Rattle.transcript_law.proofs.rows.ClientRows.{again, armed, crashed, other, reply_down, stopped, stopped_before, stopped_untold, untold}
use Rattle.transcript_law.proofs.clients.judged_client_stops.Goals as goal

pub returns : goal.returns
returns c = record {
  crashed = crashed;
  untold = untold;
  other = other;
  armed = armed;
  again = again;
  reply = reply_down;
  stopped = stopped;
  stopped_untold = stopped_untold;
  stopped_before = stopped_before;
}
