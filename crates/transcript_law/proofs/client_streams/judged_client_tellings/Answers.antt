use Rattle.transcript_law.proofs.rows.ClientStreamTellings as rows
use Rattle.transcript_law.proofs.client_streams.judged_client_tellings.Goals as goal

pub returns : goal.returns
returns c = record {
  pull_change = rows.pull_change;
  pull_ask = rows.pull_ask;
  pull_link = rows.pull_link;
  pull_close = rows.pull_close;
  pull_other = rows.pull_other;
  pull_reply = rows.pull_reply;
  bytes_mark = rows.bytes_mark;
  bytes_end = rows.bytes_end;
  tick_mark = rows.tick_mark;
  pump_mark = rows.pump_mark;
  up_mark = rows.up_mark;
  hang_ask = rows.hang_ask;
  pump_ask = rows.pump_ask;
  tick_ask = rows.tick_ask;
  gives = rows.gives;
  hears = rows.hears;
  counts = rows.counts;
}
