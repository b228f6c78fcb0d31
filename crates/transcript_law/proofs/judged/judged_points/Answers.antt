use Rattle.transcript_law.proofs.Words.{refl}
use Rattle.transcript_law.proofs.rows.JournalRows.{point, point_below, inside, not_inside, greatest, point_above, point_saved, points_of_branch, not_of_branch}
use Rattle.transcript_law.proofs.judged.judged_points.Goals as goal

pub returns : goal.returns
returns c = record { point = point; below = point_below; inside = inside; not_inside = not_inside; greatest = greatest; above = point_above; saved = point_saved; kept = refl; gone = refl; branch = points_of_branch; other = not_of_branch }
