use Rattle.transcript_law.proofs.rows.Transcripts.{own, writer, maker, follower, above_fork, at_fork, same, history, dead, dead_other, log_active, log_history, log_shown, active, leaves, leaves_inside, not_inside, other_fork, other_high, other_parent, parentless}
use Rattle.transcript_law.proofs.rows.Contrary.{later, on_new, left_behind}
use Rattle.transcript_law.proofs.judged.judged_branches.Goals as goal

pub returns : goal.returns
returns c = record {
  own = own;
  writer = writer;
  maker = maker;
  follower = follower;
  above = above_fork;
  at_fork = at_fork;
  later = later;
  on_new = on_new;
  left = left_behind;
  same = same;
  history = history;
  dead = dead;
  dead_other = dead_other;
  log_shown = log_shown;
  log_history = log_history;
  log_active = log_active;
  active = active;
  leaves = leaves;
  parent = other_parent;
  parentless = parentless;
  fork = other_fork;
  high = other_high;
  inside = leaves_inside;
  not_inside = not_inside;
}
