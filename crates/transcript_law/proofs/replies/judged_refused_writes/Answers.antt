use Rattle.transcript_law.proofs.rows.AnswerRefusals as rows
use Rattle.transcript_law.proofs.replies.judged_refused_writes.Goals as goal

pub returns : goal.returns
returns c = record {
  fits = rows.fits;
  unfit = rows.unfit;
  unfit_other = rows.unfit_other;
  adds = rows.adds;
  adds_again = rows.adds_again;
  replaces = rows.replaces;
  replaces_none = rows.replaces_none;
  removes_none = rows.removes_none;
  other = rows.other;
  success = rows.success;
  active = rows.active;
  away = rows.away;
  away_other = rows.away_other;
  away_full = rows.away_full;
  locked = rows.locked;
  locked_other = rows.locked_other;
  unlocked = rows.unlocked;
  full = rows.full;
  full_beside = rows.full_beside;
  full_early = rows.full_early;
  full_twice = rows.full_twice;
  full_first = rows.full_first;
  made = rows.made;
  removed = rows.removed;
}
