use Rattle.transcript_law.proofs.rows.TakenRows.{ends_otherwise}
use Rattle.transcript_law.proofs.rows.Rollbacks.{ends, cut_short, behind_end, ends_twice, link_ends, link_ends_twice, over_link_marked, marked_anew}
use Rattle.transcript_law.proofs.judged.judged_ends.Goals as goal

pub returns : goal.returns
returns c = record {
  ends = ends;
  inside = cut_short;
  behind = behind_end;
  twice = ends_twice;
  reason = ends_otherwise;
  over = over_link_marked;
  ended = link_ends;
  ended_twice = link_ends_twice;
  anew = marked_anew;
}
