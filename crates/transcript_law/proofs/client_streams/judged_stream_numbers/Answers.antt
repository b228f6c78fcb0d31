use Rattle.transcript_law.proofs.rows.ClientStreamNumbers as rows
use Rattle.transcript_law.proofs.client_streams.judged_stream_numbers.Goals as goal

pub returns : goal.returns
returns c = record {
  spent = rows.spent;
  spent_goes = rows.spent_goes;
  last = rows.last;
  last_refused = rows.last_refused;
  takes = rows.takes;
  over = rows.over;
  held = rows.held;
  flags = rows.flags;
  unopened = rows.unopened;
  none_left = rows.none_left;
}
