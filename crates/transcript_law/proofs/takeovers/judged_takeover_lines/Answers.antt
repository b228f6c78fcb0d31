use Rattle.transcript_law.proofs.rows.TakeoverEnds.{ended_at_once, ended_given_on}
use Rattle.transcript_law.proofs.rows.TakeoverWaits.{asked, asked_plain, done, done_changed, done_early, done_later, ended, ended_changed, ended_early, ended_turned, ended_turned_so, ended_unheard, flag, flag_following, marked, marked_late, marked_offered, marked_rest, marked_turned, no_flag, over, over_done}
use Rattle.transcript_law.proofs.takeovers.judged_takeover_lines.Goals as goal

pub returns : goal.returns
returns c = record {
  marked = marked;
  marked_offered = marked_offered;
  marked_rest = marked_rest;
  marked_late = marked_late;
  marked_turned = marked_turned;
  ended = ended;
  ended_given_on = ended_given_on;
  ended_early = ended_early;
  ended_at_once = ended_at_once;
  ended_unheard = ended_unheard;
  ended_changed = ended_changed;
  ended_turned = ended_turned;
  ended_turned_so = ended_turned_so;
  done = done;
  done_early = done_early;
  done_changed = done_changed;
  done_later = done_later;
  over = over;
  over_done = over_done;
  asked = asked;
  asked_plain = asked_plain;
  flag = flag;
  flag_following = flag_following;
  no_flag = no_flag;
}
