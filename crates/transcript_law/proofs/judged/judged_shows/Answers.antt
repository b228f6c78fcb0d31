use Rattle.transcript_law.proofs.rows.Rollbacks.{right, dead, none_newest, other_newest, own_newest, risen, risen_inside, shown_otherwise, other_seqno, other_snapshot, other_value, none_shown, other_count}
use Rattle.transcript_law.proofs.judged.judged_shows.Goals as goal

pub returns : goal.returns
returns c = record {
  right = right;
  dead = dead;
  role = shown_otherwise;
  seqno = other_seqno;
  snapshot = other_snapshot;
  value = other_value;
  missing = none_shown;
  count = other_count;
  newest = own_newest;
  other = other_newest;
  none = none_newest;
  risen = risen;
  risen_inside = risen_inside;
}
