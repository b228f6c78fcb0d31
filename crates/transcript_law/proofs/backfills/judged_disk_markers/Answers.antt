use Rattle.transcript_law.proofs.rows.BackfillRows as rows
use Rattle.transcript_law.proofs.backfills.judged_disk_markers.Goals as goal

pub returns : goal.returns
returns c = record {
  whole = rows.whole;
  part = rows.part;
  above = rows.above;
  elsewhere = rows.elsewhere;
  memory = rows.memory;
  both = rows.both;
  neither = rows.neither;
  first = rows.first;
  next = rows.next;
  next_memory = rows.next_memory;
  again = rows.again;
  unput = rows.unput;
  unsent = rows.unsent;
}
