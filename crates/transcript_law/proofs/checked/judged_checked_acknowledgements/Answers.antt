use Rattle.transcript_law.proofs.rows.CheckedRows as rows
use Rattle.transcript_law.proofs.checked.judged_checked_acknowledgements.Goals as goal

pub returns : goal.returns
returns c = record {
  counted = rows.acked;
  above = rows.ack_above;
  inside = rows.ack_inside;
  unsaved = rows.unsaved;
  lost = rows.lost;
  astray = rows.astray;
  unwritten = rows.unwritten;
  member = rows.member;
  itself = rows.itself;
  branched = rows.branched;
}
