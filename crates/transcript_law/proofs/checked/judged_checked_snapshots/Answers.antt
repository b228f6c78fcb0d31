use Rattle.transcript_law.proofs.rows.CheckedRows as rows
use Rattle.transcript_law.proofs.checked.judged_checked_snapshots.Goals as goal

pub returns : goal.returns
returns c = record {
  whole = rows.whole_put;
  start = rows.start;
  short = rows.short;
  past = rows.past;
  unput = rows.unput;
  key = rows.key;
  skipped = rows.skipped;
  twice = rows.twice;
  part = rows.part;
}
