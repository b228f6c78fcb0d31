use Rattle.transcript_law.proofs.rows.ClientStreamPulls as rows
use Rattle.transcript_law.proofs.rows.ClientStreamStories as stories
use Rattle.transcript_law.proofs.client_streams.judged_client_pulls.Goals as goal

pub returns : goal.returns
returns c = record {
  counted = stories.counted;
  miscounted = rows.miscounted;
  other = rows.other;
  more = rows.more;
  reply = rows.reply;
  no_reply = rows.no_reply;
  shut = rows.shut;
  carried = rows.carried;
  no_stream = rows.no_stream;
  put = rows.put;
  unput = rows.unput;
  left = rows.left;
  part = rows.part;
  due = rows.due;
  turns = rows.turns;
  inactive = rows.inactive;
  over = rows.over;
  closed = rows.closed;
  prepare = rows.prepare;
  plain_prepare = rows.plain_prepare;
}
