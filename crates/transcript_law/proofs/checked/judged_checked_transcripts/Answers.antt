use Rattle.transcript_law.proofs.rows.CheckedRows as rows
use Rattle.transcript_law.proofs.rows.Transcripts.{more}
use Rattle.transcript_law.proofs.checked.judged_checked_transcripts.Goals as goal

pub returns : goal.returns
returns c = record {
  right = rows.right;
  value = rows.value;
  missing = rows.missing;
  number = rows.number;
  fewer = rows.fewer;
  excess = rows.excess;
  own = rows.own;
  branch = rows.branch;
  writer = rows.writer;
  same = rows.same;
  history = rows.history;
  counted = rows.counted_wrong;
  miscounted = more;
}
