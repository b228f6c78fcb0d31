use Rattle.transcript_law.proofs.rows.TrimRows as rows
use Rattle.transcript_law.proofs.trims.judged_trims.Goals as goal

pub returns : goal.returns
returns c = record {
  none = rows.none;
  each = rows.each;
  more = rows.more;
  unsaved = rows.unsaved;
  absent = rows.absent;
  refused = rows.refused;
  ok = λ l. l.0.1;
  pulled = λ n why l. l.0.1;
}
