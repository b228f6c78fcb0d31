use Rattle.transcript_law.proofs.rows.AnswerUnsure as rows
use Rattle.transcript_law.proofs.replies.judged_unsure.Goals as goal

pub returns : goal.returns
returns c = record {
  dead = rows.dead;
  follows = rows.follows;
  given_up = rows.given_up;
  timed = rows.timed;
  last = rows.last;
  waits = rows.waits;
  anew = rows.anew;
  early = rows.early;
  timed_early = rows.timed_early;
  since = rows.since;
  before_last = rows.before_last;
  other_prepare = rows.other_prepare;
  other_key = rows.other_key;
  other_vb = rows.other_vb;
  other_node = rows.other_node;
  had_commit = rows.had_commit;
  unprepared = rows.unprepared;
  gone_unprepared = rows.gone_unprepared;
  gone_before = rows.gone_before;
  gone_value = rows.gone_value;
  gone_key = rows.gone_key;
  gone_level = rows.gone_level;
  gone_removal = rows.gone_removal;
  gone_vb = rows.gone_vb;
  gone_node = rows.gone_node;
  ticked = rows.ticked;
}
