use Rattle.transcript_law.proofs.rows.ClientStreamSetups as rows
use Rattle.transcript_law.proofs.client_streams.judged_client_setups.Goals as goal

pub returns : goal.returns
returns c = record {
  both = rows.both;
  neither = rows.neither;
  sync = rows.sync;
  name = rows.name;
  early = rows.early;
  late = rows.late;
  back = rows.back;
  empty = rows.empty;
  word = rows.word;
  consumer = rows.consumer;
  second = rows.second;
  flags = rows.flags;
  long = rows.long;
}
