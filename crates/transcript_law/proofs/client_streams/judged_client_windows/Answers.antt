use Rattle.transcript_law.proofs.rows.ClientStreamWindows as rows
use Rattle.transcript_law.proofs.client_streams.judged_client_windows.Goals as goal

pub returns : goal.returns
returns c = record {
  less = rows.less;
  shut = rows.shut;
  no_size = rows.no_size;
  counted = rows.counted;
  item = rows.item;
  end = rows.end;
  acked = rows.acked;
  acked_waits = rows.acked_waits;
  sized = rows.sized;
  no_longer = rows.unsized;
  full = rows.full;
  full_open = rows.full_open;
  idle_shut = rows.idle_shut;
  waits_shut = rows.waits_shut;
}
