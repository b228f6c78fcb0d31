use Rattle.transcript_law.proofs.rows.CheckedRows as rows
use Rattle.transcript_law.proofs.checked.judged_checked_rollbacks.Goals as goal

pub returns : goal.returns
returns c = record {
  point = rows.point;
  below = rows.point_below;
  inside = rows.inside_point;
  not_inside = rows.not_inside;
  above = rows.point_above;
}
