use Rattle.transcript_law.proofs.rows.ClientStreamWaits as rows
use Rattle.transcript_law.proofs.client_streams.judged_waiting_pulls.Goals as goal

pub returns : goal.returns
returns c = record {
  waits = rows.waits;
  unsaved = rows.unsaved;
  all_put = rows.all_put;
  part = rows.part;
  due = rows.due;
  turns = rows.turns;
  over = rows.over;
  none = rows.none_there;
  other_put = rows.other_put;
  other_left = rows.other_left;
}
