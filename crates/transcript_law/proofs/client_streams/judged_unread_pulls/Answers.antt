use Rattle.transcript_law.proofs.rows.ClientStreamUnread as rows
use Rattle.transcript_law.proofs.client_streams.judged_unread_pulls.Goals as goal

pub returns : goal.returns
returns c = record {
  unread = rows.unread;
  opened = rows.opened;
  unsaved = rows.unsaved;
  all_put = rows.all_put;
  part = rows.part;
  due = rows.due;
  turns = rows.turns;
  over = rows.over;
  none = rows.none_there;
  shut = rows.shut;
  other_left = rows.other_left;
}
