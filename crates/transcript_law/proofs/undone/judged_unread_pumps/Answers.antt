use Rattle.transcript_law.proofs.rows.UnreadRows as rows
use Rattle.transcript_law.proofs.undone.judged_unread_pumps.Goals as goal

pub returns : goal.returns
returns c = record {
  unread = rows.unread;
  behind = rows.behind;
  opened = rows.opened;
  unsaved = rows.unsaved;
  put = rows.put;
  half_put = rows.half_put;
  ended = rows.ended;
  no_stream = rows.no_stream;
}
